-- One law for each way through the readers of numbers and names, and the loop over digits. Assumes nothing.
use Prim.Native.Nat.{ℕ, suc, ◌+◌, ◌-◌, ◌*◌, ◌^◌, ◌≤◌, ◌<◌}
use mathlib.Core.Path.{◌≡◌, refl, sym, ap, ◌∙◌, subst}
use mathlib.Core.Bool.{Bool, true, false}
use mathlib.Core.Logic.{◌⊎◌, inl, inr}
use mathlib.Core.List.{List, [], ◌∷◌}
use native.Mathlib.Nat.{le_refl}
use native.Mathlib.Omega.{arith}
use borrow.Author.Tests.{lt-ltb, le-ltb, le-leb, lt-leb, ltb-true}
use mir.Val.{Fits}
use mir.Syntax.{w16}
use borrow.Table.Steps.{cases}
use lib.Dec.{ltb, leb}
use lib.IntN.{pos}
use lib.ListN.{length, get_or, drop, length-drop}
use lib.Ieee.{Float, binary32, of_int, div, neg}
use Rattle.base_laws.proofs.Choice.{cond-true, cond-false}
use Rattle.text_numerals.specs.Numeral.{most_number, most_decimals, float_of}
use Rattle.text_numerals.specs.inside.Reading.{Read, got, refused, is_digit, Run, digits_from, without_point, decimals_from, unsigned_from, number_from, symbol_from, name_from}
use Rattle.text_numerals.proofs.Quotient.{quotient}
use Rattle.text_numerals.proofs.Signs.{minus-float}
use Rattle.std.specs.Prelude.{Option, Some, None}
use Rattle.text_number_reader.specs.Results.{read_is, read_told, ReadAt, NumberAt, NameAt, EveryNumberAnswer, EveryNameAnswer, digits_is, count_in, past_in, DigitsAt, Starts}
use Rattle.text_number_reader.proofs.Bytes.{here, past, rest-drop}

-- ---- one byte

-- a byte that is a digit, one below the digits, and one above
digit-yes : (b : ℕ) → 48 ≤ b → b ≤ 57 → is_digit b ≡ true
unfolding is_digit
digit-yes b h k = cc (le-leb 48 b h, le-leb b 57 k)

digit-no-low : (b : ℕ) → b < 48 → is_digit b ≡ false
unfolding is_digit
digit-no-low b h = cc (lt-leb 48 b h)

digit-no-high : (b : ℕ) → 48 ≤ b → 57 < b → is_digit b ≡ false
unfolding is_digit
digit-no-high b h k = cc (le-leb 48 b h, lt-leb b 57 k)

-- ---- results: a position that lies among the bytes is told by the bytes behind it

pub behind : (s : List ℕ) (p : ℕ) → p ≤ length s → p ≡ length s - length (drop p s)
behind s p h = omega (arith, length-drop p s)

module _ {A : Type 0} (s : List ℕ) where
  pub read_of : (v : A) (p : ℕ) {x : Read A} → p ≤ length s → got v (drop p s) ≡ x → ReadAt s x (Some (v, p))
  unfolding read_told
  read_of v p h e = record { told = ap (λ (q : ℕ). Some (v, q)) (behind s p h) ∙ ap (read_told s) e; is = e }

  pub read-no : {x : Read A} → refused ≡ x → {r : Option (A × ℕ)} → r ≡ None → ReadAt s x r
  unfolding read_told
  read-no e f = record { told = f ∙ ap (read_told s) e; is = ap (read_is s) f ∙ e }

  pub read-as : {x y : Read A} {r : Option (A × ℕ)} → x ≡ y → ReadAt s x r → ReadAt s y r
  read-as e a = record { told = a.told ∙ ap (read_told s) e; is = a.is ∙ e }

pub every-number-answer : EveryNumberAnswer
unfolding read_told
every-number-answer s (got x after) = refl
every-number-answer s refused = refl

pub every-name-answer : EveryNameAnswer
unfolding read_told
every-name-answer s (got n after) = refl
every-name-answer s refused = refl

-- ---- the loop over digits

module _ (s : List ℕ) (at start most : ℕ) where
  -- the digits from i on, behind the number n, give what all of them give
  pub record Reading (n i : ℕ) : Type 0 where
    pub on : at ≤ i
    pub upto : i ≤ at + (length s - at)
    pub below : n < most
    pub same : digits_from most n (i - at) (drop i s) ≡ digits_from most start 0 (drop at s)

  pub starts : start < most → Reading start at
  starts h = record { on = omega arith; upto = omega arith; below = h; same = let e : at - at ≡ 0 = omega arith in cc }

  -- the digits end at i
  told_at : (n i : ℕ) → Reading n i → got (record { number = n; count = i - at }) (drop i s) ≡ digits_from most start 0 (drop at s)
      → DigitsAt s (digits_from most start 0 (drop at s)) (Some (n, i - at, i))
  told_at n i g e = record { is = e; within = λ k. omega (arith, g.on, g.upto) }

  module _ (n i : ℕ) (g : Reading n i) (h : i < length s) where
    -- the digits from i on, with the byte at i in front
    front : digits_from most n (i - at) (get_or s i 0 ∷ drop (i + 1) s) ≡ digits_from most start 0 (drop at s)
    front = ap (digits_from most n (i - at)) (sym (here s i h)) ∙ g.same

    ends_at : is_digit (get_or s i 0) ≡ false → DigitsAt s (digits_from most start 0 (drop at s)) (Some (n, i - at, i))
    unfolding digits_from
    ends_at e = told_at n i g (ap (got (record { number = n; count = i - at })) (here s i h) ∙ rw e at front)

    pub ends_outside : (get_or s i 0 < 48) ⊎ ((48 ≤ get_or s i 0) × (57 < get_or s i 0)) → DigitsAt s (digits_from most start 0 (drop at s)) (Some (n, i - at, i))
    ends_outside o = elim o [ inl l ↦ ends_at (digit-no-low (get_or s i 0) l) | inr h ↦ ends_at (digit-no-high (get_or s i 0) h.0 h.1) ]

    module _ (l : 48 ≤ get_or s i 0) (k : get_or s i 0 ≤ 57) where
      pub too_large : most ≤ n * 10 + (get_or s i 0 - 48) → DigitsAt s (digits_from most start 0 (drop at s)) None
      unfolding digits_from
      too_large m = record { is = rw (digit-yes (get_or s i 0) l k, le-ltb (n * 10 + (get_or s i 0 - 48)) most m) at front; within = λ j. omega arith }

      pub again : n * 10 + (get_or s i 0 - 48) < most → Reading (n * 10 + (get_or s i 0 - 48)) (i + 1)
      unfolding digits_from
      again m =
          let c : i + 1 - at ≡ suc (i - at) = omega (arith, g.on) in
          record { on = omega (arith, g.on); upto = omega (arith, g.on, g.upto); below = m; same = rw c (rw (digit-yes (get_or s i 0) l k, lt-ltb (n * 10 + (get_or s i 0 - 48)) most m) at front) }

  pub ends : (n i k : ℕ) → Reading n i → length s ≤ i → k ≡ length s - at → DigitsAt s (digits_from most start 0 (drop at s)) (Some (n, k, length s))
  unfolding digits_from
  ends n i k g h e =
      let j : k ≡ i - at = omega (arith, g.on, g.upto) in
      record {
        is = (λ z. got (record { number = n; count = j z }) (past s (length s) (le_refl (length s)) z)) ∙ rw (past s i h) at g.same;
        within = λ _. le_refl (length s);
      }

abbrev number_in : Read Run → ℕ
number_in (got r after) = r.number
number_in refused = 0

-- the number stays below
below-from : (most n k : ℕ) (bs : List ℕ) {m c : ℕ} {after : List ℕ} → n < most → digits_from most n k bs ≡ got (record { number = m; count = c }) after → m < most
unfolding digits_from
below-from most n k [] h e = rw (ap number_in e) at h
below-from most n k (b ∷ bs) {m} {c} {after} h e =
    cases (is_digit b)
    (λ d. cases (ltb (n * 10 + (b - 48)) most) (λ l. below-from most (n * 10 + (b - 48)) (suc k) bs (ltb-true (n * 10 + (b - 48)) most l) (rw (d, l) at e))
    (λ l. let f = rw (d, l) at e in absurd (let z : ◌≡◌ {A = ℕ} 0 1 = cc in omega arith)))
    (λ d. rw (ap number_in (rw d at e)) at h)

-- ---- what a call gave

-- what was matched of a call's result, as a reading
matched : (s : List ℕ) {x : Read Run} {r k : Option (ℕ × ℕ × ℕ)} → digits_is s r ≡ x → r ≡ k → x ≡ digits_is s k
matched s e f = sym e ∙ ap (digits_is s) f

-- the position past one digit or more
within_of : (s : List ℕ) {x : Read Run} {r : Option (ℕ × ℕ × ℕ)} {n k p : ℕ} → DigitsAt s x r → r ≡ Some (n, k, p) → 0 < k → p ≤ length s
within_of s {n} {k} {p} d f h = subst (λ (q : Option (ℕ × ℕ × ℕ)). 0 < count_in q → past_in q ≤ length s) f d.within h

pub digits-below : (s : List ℕ) (at start most : ℕ) {n k p : ℕ} {r : Option (ℕ × ℕ × ℕ)} → DigitsAt s (digits_from most start 0 (drop at s)) r → r ≡ Some (n, k, p) → start < most → n < most
digits-below s at start most e f h = below-from most start 0 (drop at s) h (matched s e.is f)

pub symbol-fits : (s : List ℕ) (at : ℕ) {n k p : ℕ} {r : Option (ℕ × ℕ × ℕ)} → DigitsAt s (digits_from 65536 0 0 (drop at s)) r → r ≡ Some (n, k, p) → Fits w16 n
symbol-fits s at e f = record { fits = digits-below s at 0 65536 e f (omega arith) }

-- ---- what a number means

pub value-plain : (minus : Bool) (n d : ℕ) {c : ℕ} → n < most_number → d ≤ most_decimals → c ≡ 10 ^ d → minus ≡ false → div binary32 (of_int binary32 (pos n)) (of_int binary32 (pos c)) ≡ float_of minus n d
value-plain minus n d h k e f = rw (e, f) (quotient n d h k)

pub value-minus : (minus : Bool) (n d : ℕ) {c : ℕ} → n < most_number → d ≤ most_decimals → c ≡ 10 ^ d → minus ≡ true → neg (div binary32 (of_int binary32 (pos n)) (of_int binary32 (pos c))) ≡ float_of minus n d
value-minus minus n d h k e f = ap neg (value-plain false n d h k e refl) ∙ minus-float n d ∙ ap (λ (t : Bool). float_of t n d) (sym f)

-- ---- decimals

module _ (s : List ℕ) (at : ℕ) (minus : Bool) (n : ℕ) {r : Option (ℕ × ℕ × ℕ)} (e : DigitsAt s (digits_from most_number n 0 (drop at s)) r) where
  module _ {m k p : ℕ} (f : r ≡ Some (m, k, p)) where
    pub decimals-bad : (k ≡ 0) ⊎ ((k ≡ 0 → ⊥) × (3 < k)) → NumberAt s (decimals_from minus n (drop at s)) None
    unfolding decimals_from
    decimals-bad o =
        elim o [
          | inl h ↦ read-no s (sym (rw (matched s e.is f, h))) refl
          | inr h ↦ read-no s (sym (rw (matched s e.is f, le-leb 1 k (omega arith), lt-leb k 3 h.1))) refl
        ]

    pub decimals-are : (k ≡ 0 → ⊥) → k ≤ 3 → {x : Float} → x ≡ float_of minus m k → NumberAt s (decimals_from minus n (drop at s)) (Some (x, p))
    unfolding decimals_from
    decimals-are h l {x} g =
        let o : 1 ≤ k = omega arith in
        read_of s x p (within_of s e f o) (ap (λ (y : Float). got y (drop p s)) g ∙ sym (rw (matched s e.is f, le-leb 1 k o, le-leb k 3 l)))

  pub decimals-no : r ≡ None → {x : Option (Float × ℕ)} → x ≡ None → NumberAt s (decimals_from minus n (drop at s)) x
  unfolding decimals_from
  decimals-no f = read-no s (sym (rw (matched s e.is f)))

-- ---- behind the sign

module _ (s : List ℕ) (at : ℕ) (minus : Bool) {r : Option (ℕ × ℕ × ℕ)} (e : DigitsAt s (digits_from most_number 0 0 (drop at s)) r) where
  module _ {m k p : ℕ} (f : r ≡ Some (m, k, p)) where
    pub unsigned-none : k ≡ 0 → NumberAt s (unsigned_from minus (drop at s)) None
    unfolding unsigned_from
    unsigned-none h = read-no s (sym (rw (matched s e.is f, h))) refl

    module _ (h : k ≡ 0 → ⊥) {t : Bool} (g : Starts s p 46 t) where
      one : 1 ≤ k
      one = omega arith

      some : leb 1 k ≡ true
      some = le-leb 1 k one

      pub unsigned-point : t ≡ true → {x : Option (Float × ℕ)} → NumberAt s (decimals_from minus m (drop (p + 1) s)) x → NumberAt s (unsigned_from minus (drop at s)) x
      unfolding unsigned_from
      unsigned-point y = read-as s (ap (decimals_from minus m) (sym (rest-drop s p)) ∙ sym (rw (matched s e.is f, some, sym g.is ∙ y)))

      pub unsigned-plain : t ≡ false → {x : Float} → x ≡ float_of minus m 0 → NumberAt s (unsigned_from minus (drop at s)) (Some (x, p))
      unfolding unsigned_from without_point
      unsigned-plain y {x} z =
          read_of s x p (within_of s e f one) (ap (λ (w : Float). got w (drop p s)) z ∙ sym (rw (matched s e.is f, some, sym g.is ∙ y)))

  pub unsigned-no : r ≡ None → {x : Option (Float × ℕ)} → x ≡ None → NumberAt s (unsigned_from minus (drop at s)) x
  unfolding unsigned_from
  unsigned-no f = read-no s (sym (rw (matched s e.is f)))

-- ---- a number

module _ (s : List ℕ) (at : ℕ) {t : Bool} (g : Starts s at 45 t) where
  pub number-minus : t ≡ true → {x : Option (Float × ℕ)} → NumberAt s (unsigned_from true (drop (at + 1) s)) x → NumberAt s (number_from (drop at s)) x
  unfolding number_from
  number-minus y = read-as s (ap (unsigned_from true) (sym (rest-drop s at)) ∙ sym (cond-true _ _ (sym g.is ∙ y)))

  pub number-plain : t ≡ false → {x : Option (Float × ℕ)} → NumberAt s (unsigned_from false (drop at s)) x → NumberAt s (number_from (drop at s)) x
  unfolding number_from
  number-plain y = read-as s (sym (cond-false _ _ (sym g.is ∙ y)))

-- ---- a name

module _ (s : List ℕ) (at : ℕ) {t : Bool} (g : Starts s at 48 t) where
  pub symbol-zero : t ≡ true → NameAt s (symbol_from (drop at s)) (Some (0, at + 1))
  unfolding symbol_from
  symbol-zero y = read_of s 0 (at + 1) (omega (arith, g.within y)) (ap (got 0) (sym (rest-drop s at)) ∙ sym (cond-true _ _ (sym g.is ∙ y)))

  module _ (y : t ≡ false) {r : Option (ℕ × ℕ × ℕ)} (e : DigitsAt s (digits_from 65536 0 0 (drop at s)) r) where
    pub symbol-none : {m k p : ℕ} → r ≡ Some (m, k, p) → k ≡ 0 → NameAt s (symbol_from (drop at s)) None
    unfolding symbol_from
    symbol-none f h = read-no s (sym (rw (sym g.is ∙ y, matched s e.is f, h))) refl

    pub symbol-is : {m k p : ℕ} → r ≡ Some (m, k, p) → (k ≡ 0 → ⊥) → NameAt s (symbol_from (drop at s)) (Some (m, p))
    unfolding symbol_from
    symbol-is {m} {k} {p} f h = let o : 1 ≤ k = omega arith in read_of s m p (within_of s e f o) (sym (rw (sym g.is ∙ y, matched s e.is f, le-leb 1 k o)))

    pub symbol-no : r ≡ None → {x : Option (ℕ × ℕ)} → x ≡ None → NameAt s (symbol_from (drop at s)) x
    unfolding symbol_from
    symbol-no f = read-no s (sym (rw (sym g.is ∙ y, matched s e.is f)))

module _ (s : List ℕ) (at : ℕ) {t : Bool} (g : Starts s at 115 t) where
  pub name-symbol : t ≡ true → {x : Option (ℕ × ℕ)} → NameAt s (symbol_from (drop (at + 1) s)) x → NameAt s (name_from (drop at s)) x
  unfolding name_from
  name-symbol y = read-as s (ap symbol_from (sym (rest-drop s at)) ∙ sym (cond-true _ _ (sym g.is ∙ y)))

  pub no_name : t ≡ false → NameAt s (name_from (drop at s)) None
  unfolding name_from
  no_name y = read-no s (sym (cond-false _ _ (sym g.is ∙ y))) refl
