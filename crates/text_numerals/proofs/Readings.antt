-- Numbers and names are read where they are validly encoded, as what they mean, and nowhere else. Assumes nothing.
use Prim.Native.Nat.{ℕ, zero, suc, ◌+◌, ◌-◌, ◌*◌, ◌≤◌, ◌<◌}
use native.Mathlib.Nat.{add-zero, zero-add, le_refl, le_trans, lt_of_le_of_lt}
use native.Mathlib.Omega.{arith}
use mathlib.Core.Path.{◌≡◌, refl, sym, ap, ◌∙◌, subst}
use mathlib.Core.Bool.{Bool, true, false, cond, ◌&&◌, true≢false}
use mathlib.Core.List.{List, [], ◌∷◌, ◌++◌, append_assoc, head-eq_of_cons-eq, tail-eq_of_cons-eq}
use borrow.Author.Tests.{lt-ltb, le-leb, ne_eqb, ltb-true, leb-true, eqb-true, eqb-false}
use lib.ListN.{length}
use lib.Dec.{ltb, leb, eqb}
use lib.Ieee.{Float}
use Rattle.base_laws.proofs.Choice.{cond-false, both_true, cond-from}
use Rattle.text_numerals.proofs.DecimalDigits.{lowest-length, wide, decimal-digits, decimal-value, decimal-back, not-zero}
use Rattle.text_numerals.specs.Numeral.{minus_sign, point, zero_digit, name_letter, Digits, digit_bytes, value_from, Numeral, most_number, most_decimals, whole_of, Valid, sign_bytes, decimal_bytes, encoded, float_of, meaning, width_of, decimal, most_symbol, name_bytes}
use Rattle.text_numerals.specs.inside.Reading.{Read, got, refused, and_then, starts_with, rest, is_digit, starts_digit, Run, digits_from, without_point, decimals_from, unsigned_from, number_from, symbol_from, name_from}

-- ---- readings

-- something valid is encoded at the start of the bytes, and was read as what it means
pub record Found {X A : Type 0} (bytes : X → List ℕ) (Law : X → Type 0) (means : X → A) (bs : List ℕ) (a : A) (after : List ℕ) : Type 0 where
  pub one : X
  pub valid : Law one
  pub encodes : bs ≡ bytes one ++ after
  pub says : a ≡ means one

pub not-got : {A P : Type 0} {a : A} {r : List ℕ} → refused ≡ got a r → P
not-got e = absurd (let z : ◌≡◌ {A = ℕ} 0 1 = cc in omega arith)

-- what went through was read in two steps
pub then-got : {A B P : Type 0} (m : Read A) {k : A → List ℕ → Read B} {b : B} {r : List ℕ} → and_then m k ≡ got b r
    → ((a : A) (q : List ℕ) → m ≡ got a q → k a q ≡ got b r → P) → P
then-got (got a q) e f = f a q refl e
then-got refused e f = not-got e

-- a test that a reading passed
pub test_back : {A : Type 0} (t : Bool) (m : Read A) {a : A} {r : List ℕ} → cond t m refused ≡ got a r → (t ≡ true) × (m ≡ got a r)
test_back true m e = (refl, e)
test_back false m e = not-got e

-- ---- digits

is-digit : (v : ℕ) → v < 10 → is_digit (zero_digit + v) ≡ true
unfolding is_digit
is-digit v h = rw (le-leb 48 (48 + v) (omega arith), le-leb (48 + v) 57 (omega arith))

-- a number only grows
grows : (n : ℕ) (vs : List ℕ) → n ≤ value_from n vs
unfolding value_from
grows n [] = le_refl n
grows n (v ∷ vs) = le_trans (let h : n ≤ n * 10 + v = omega arith in h) (grows (n * 10 + v) vs)

abbrev run : ℕ → ℕ → Run
run n k = record { number = n; count = k }

digits-end : (most n k : ℕ) (bs : List ℕ) → starts_digit bs ≡ false → digits_from most n k bs ≡ got (run n k) bs
unfolding digits_from starts_digit
digits-end most n k [] h = refl
digits-end most n k (b ∷ bs) h = cond-false _ _ h

digit-step : (most n k v : ℕ) (bs : List ℕ) → v < 10 → n * 10 + v < most → digits_from most n k ((zero_digit + v) ∷ bs) ≡ digits_from most (n * 10 + v) (suc k) bs
unfolding digits_from
digit-step most n k v bs h l = let e : 48 + v - 48 ≡ v = omega arith in rw (is-digit v h, e, lt-ltb (n * 10 + v) most l)

digits-complete : (most n k : ℕ) (vs after : List ℕ) → Digits vs → value_from n vs < most → starts_digit after ≡ false
    → digits_from most n k (digit_bytes vs ++ after) ≡ got (run (value_from n vs) (k + length vs)) after
unfolding digit_bytes value_from Digits
digits-complete most n k [] after d l h = cc (digits-end most n k after h, add-zero k)
digits-complete most n k (v ∷ vs) after d l h =
    let m = n * 10 + v in
    let e : suc k + length vs ≡ k + suc (length vs) = omega arith in
    cc (digit-step most n k v (digit_bytes vs ++ after) d.0 (lt_of_le_of_lt (grows m vs) l), digits-complete most m (suc k) vs after d.1 l h)

-- digits were read
digits-sound : {P : Type 0} (most n k : ℕ) (bs : List ℕ) {r : Run} {after : List ℕ} → n < most → digits_from most n k bs ≡ got r after
    → ((ds : List ℕ) → Digits ds → bs ≡ digit_bytes ds ++ after → r.number ≡ value_from n ds → r.count ≡ k + length ds → value_from n ds < most → P) → P
unfolding digits_from digit_bytes value_from Digits
digits-sound most n k [] l e f = f [] tt (cc) (cc) (cc (add-zero k)) l
digits-sound most n k (b ∷ bs) l e f =
    cond-from (is_digit b) e
    (λ d g.
    let m = n * 10 + (b - zero_digit) in
    let t = test_back (ltb m most) (digits_from most m (suc k) bs) g in
    let c = both_true (leb zero_digit b) (leb b 57) d in
    let low = leb-true 48 b c.0 in
    let high = leb-true b 57 c.1 in
    let q : b ≡ 48 + (b - 48) = omega arith in
    digits-sound most m (suc k) bs (ltb-true m most t.0) t.1 (λ ds h i j o p. f ((b - 48) ∷ ds) (omega arith, h) (λ x. q x ∷ i x) j (omega arith) p))
    (λ d g. f [] tt (cc) (cc) (cc (add-zero k)) l)

-- ---- a number

abbrev numeral : Bool → List ℕ → List ℕ → Numeral
numeral minus ds es = record { minus = minus; digits = ds; decimals = es }

unsigned-complete : (minus : Bool) (ds es after : List ℕ) → Valid (numeral minus ds es) → starts_digit after ≡ false → starts_with point after ≡ false
    → unsigned_from minus (digit_bytes ds ++ (decimal_bytes es ++ after)) ≡ got (meaning (numeral minus ds es)) after
unfolding unsigned_from decimal_bytes starts_digit meaning whole_of
unsigned-complete minus ds [] after l h p = rw (digits-complete most_number 0 0 ds after l.digits l.below h, zero-add (length ds), le-leb 1 (length ds) l.some, p)
unsigned-complete minus ds (e ∷ es) after l h p =
    let n = value_from 0 ds in
    let some : 1 ≤ suc (length es) = omega arith in
    rw (
      digits-complete most_number 0 0 ds (decimal_bytes (e ∷ es) ++ after) l.digits (lt_of_le_of_lt (grows n (e ∷ es)) l.below) refl,
      zero-add (length ds),
      le-leb 1
          (length ds) l.some,
      digits-complete most_number n 0 (e ∷ es) after l.decimals l.below h,
      zero-add (suc (length es)),
      le-leb 1 (suc (length es)) some,
      le-leb (suc (length es)) 3
          l.few,
    )

-- digits begin with a digit, a number with a minus or a digit
digits-start : (b : ℕ) (ds bs : List ℕ) → Digits ds → 0 < length ds → is_digit b ≡ false → starts_with b (digit_bytes ds ++ bs) ≡ false
unfolding starts_with digit_bytes Digits
digits-start b [] bs d h n = absurd (let z : 1 ≤ 0 = h in omega arith)
digits-start b (v ∷ vs) bs d h n = ne_eqb (48 + v) b (λ e. true≢false (sym (is-digit v d.0) ∙ ap is_digit e ∙ n))

no_minus : (ds bs : List ℕ) → Digits ds → 0 < length ds → starts_with minus_sign (digit_bytes ds ++ bs) ≡ false
unfolding is_digit
no_minus ds bs d h = digits-start minus_sign ds bs d h refl

-- a number, taken apart
apart : (x : Numeral) (bs : List ℕ) → encoded x ++ bs ≡ sign_bytes x.minus ++ (digit_bytes x.digits ++ (decimal_bytes x.decimals ++ bs))
unfolding encoded
apart x bs =
    append_assoc (sign_bytes x.minus) _ bs ∙ ap (λ (c : List ℕ). sign_bytes x.minus ++ c) (append_assoc (digit_bytes x.digits) (decimal_bytes x.decimals) bs)

pub number-starts : (b : ℕ) (x : Numeral) (bs : List ℕ) → Valid x → is_digit b ≡ false → eqb minus_sign b ≡ false → starts_with b (encoded x ++ bs) ≡ false
number-starts b x bs l h m = ap (starts_with b) (apart x bs) ∙ go x.minus
  where
    go : (t : Bool) → starts_with b (sign_bytes t ++ (digit_bytes x.digits ++ (decimal_bytes x.decimals ++ bs))) ≡ false
    go true = unfold starts_with sign_bytes in m
    go false = unfold sign_bytes in digits-start b x.digits _ l.digits l.some h

signed-complete : (m : Bool) (ds es after : List ℕ) → Valid (numeral m ds es) → starts_digit after ≡ false → starts_with point after ≡ false
    → number_from (sign_bytes m ++ (digit_bytes ds ++ (decimal_bytes es ++ after))) ≡ got (meaning (numeral m ds es)) after
unfolding number_from sign_bytes
signed-complete true ds es after l h p = unsigned-complete true ds es after l h p
signed-complete false ds es after l h p = cond-false _ _ (no_minus ds _ l.digits l.some) ∙ unsigned-complete false ds es after l h p

pub number-complete : (x : Numeral) (after : List ℕ) → Valid x → starts_digit after ≡ false → starts_with point after ≡ false
    → number_from (encoded x ++ after) ≡ got (meaning x) after
number-complete x after l h p = ap number_from (apart x after) ∙ signed-complete x.minus x.digits x.decimals after l h p

pub starts : (b : ℕ) (bs : List ℕ) → starts_with b bs ≡ true → bs ≡ b ∷ rest bs
unfolding starts_with rest
starts b [] e = absurd (true≢false (sym e))
starts b (c ∷ cs) e = ap (λ (z : ℕ). z ∷ cs) (eqb-true c b e)

point-first : (es after : List ℕ) → 1 ≤ length es → decimal_bytes es ++ after ≡ point ∷ (digit_bytes es ++ after)
unfolding decimal_bytes
point-first [] after h = absurd (let z : 1 ≤ 0 = h in omega arith)
point-first (v ∷ vs) after h = refl

-- behind a sign: digits, and no decimals or one to three
unsigned-sound : (minus : Bool) (cs bs : List ℕ) {v : Float} {after : List ℕ} → cs ≡ sign_bytes minus ++ bs → unsigned_from minus bs ≡ got v after
    → Found encoded Valid meaning cs v after
unfolding unsigned_from meaning whole_of decimal_bytes Digits
unsigned-sound minus cs bs {after = after} q e =
    then-got (digits_from most_number 0 0 bs) e (λ r between a g. digits-sound most_number 0 0 bs (omega arith) a (λ ds d₁ d₂ d₃ d₄ d₅.
    let c = test_back (leb 1 r.count) (cond (starts_with point between) (decimals_from minus r.number (rest between)) (without_point minus r between)) g in
    let low = leb-true 1 r.count c.0 in
    cond-from (starts_with point between) c.1
    (λ p f. then-got (digits_from most_number r.number 0 (rest between)) f
    (λ s o b h. digits-sound most_number r.number 0 (rest between) (omega arith) b (λ es e₁ e₂ e₃ e₄ e₅.
    let d = test_back (leb 1 s.count && leb s.count most_decimals) (got (float_of minus s.number s.count) o) h in
    let i = both_true (leb 1 s.count) (leb s.count most_decimals) d.0 in
    let least = leb-true 1 s.count i.0 in
    let most = leb-true s.count most_decimals i.1 in
    let x = numeral minus ds es in
    record {
      one = x;
      valid = record { digits = d₁; some = omega arith; decimals = e₁; few = omega arith; below = rw d₃ at e₅ };
      encodes = cc (apart x after, starts point between p, point-first es after (omega arith));
      says = cc (zero-add (length es));
    })))
    (λ p f. let x = numeral minus ds [] in record {
      one = x;
      valid = record { digits = d₁; some = omega arith; decimals = tt; few = omega arith; below = d₅ };
      encodes =
          cc (apart x after);
      says = cc;
    })))

pub number-sound : (bs : List ℕ) (v : Float) (after : List ℕ) → number_from bs ≡ got v after → Found encoded Valid meaning bs v after
unfolding number_from sign_bytes
number-sound bs v after e =
    cond-from (starts_with minus_sign bs) e (λ p f. unsigned-sound true bs (rest bs) (starts minus_sign bs p) f) (λ p f. unsigned-sound false bs bs refl f)

-- ---- a name

abbrev symbol_bytes : ℕ → List ℕ
symbol_bytes n = digit_bytes (decimal n)

digits-symbol : (n : ℕ) (vs after : List ℕ) → Digits vs → value_from 0 vs ≡ n → n ≤ most_symbol → 0 < length vs → starts_with zero_digit (digit_bytes vs ++ after) ≡ false
    → starts_digit after ≡ false
    → symbol_from (digit_bytes vs ++ after) ≡ got n after
unfolding symbol_from
digits-symbol n vs after d v l some z h =
    let b : value_from 0 vs < 65536 = subst (λ (k : ℕ). k < 65536) (sym v) (omega arith) in
    rw (z, digits-complete 65536 0 0 vs after d b h, zero-add (length vs), le-leb 1 (length vs) some, v)

symbol-complete : (n : ℕ) (after : List ℕ) → n ≤ most_symbol → starts_digit after ≡ false → symbol_from (symbol_bytes n ++ after) ≡ got n after
unfolding symbol_from decimal digit_bytes starts_with
symbol-complete zero after l h = refl
symbol-complete (suc m) after l h =
    let n = suc m in
    let b : n < 100000000 = omega arith in
    let w = wide n b in
    digits-symbol n (decimal n) after (decimal-digits n) (decimal-value n b) l (subst (λ (k : ℕ). 0 < k) (sym (lowest-length (width_of n) n)) w.some)
    (not-zero n (width_of n) after w (omega arith)) h

-- digits of which the first is none are those of their number
digits-back : (vs bs : List ℕ) → starts_with zero_digit (digit_bytes vs ++ bs) ≡ false → Digits vs → 1 ≤ length vs → value_from 0 vs < suc most_symbol
    → decimal (value_from 0 vs) ≡ vs
unfolding starts_with digit_bytes
digits-back [] bs z d some b = absurd (let z : 1 ≤ 0 = some in omega arith)
digits-back (v ∷ vs) bs z d some b = let h = eqb-false (48 + v) 48 z in decimal-back v vs d (omega arith) (omega arith)

symbol-sound : (bs : List ℕ) (n : ℕ) (after : List ℕ) → symbol_from bs ≡ got n after → Found symbol_bytes (λ k. k ≤ most_symbol) (λ k. k) bs n after
unfolding symbol_from decimal digit_bytes
symbol-sound bs n after e =
    cond-from (starts_with zero_digit bs) e (λ z f. record { one = 0; valid = omega arith; encodes = cc (starts zero_digit bs z); says = cc })
    (λ z f. then-got (digits_from (suc most_symbol) 0 0 bs) f (λ r between a g. digits-sound (suc most_symbol) 0 0 bs (omega arith) a (λ vs d₁ d₂ d₃ d₄ d₅.
    let c = test_back (leb 1 r.count) (got r.number between) g in
    let low = leb-true 1 r.count c.0 in
    let q = digits-back vs between (rw d₂ at z) d₁ (omega arith) d₅ in
    record { one = value_from 0 vs; valid = omega arith; encodes = cc; says = cc })))

pub name-complete : (n : ℕ) (after : List ℕ) → n ≤ most_symbol → starts_digit after ≡ false → name_from (name_bytes n ++ after) ≡ got n after
unfolding name_from name_bytes starts_with rest
name-complete n after l h = symbol-complete n after l h

pub name-sound : (bs : List ℕ) (n : ℕ) (after : List ℕ) → name_from bs ≡ got n after → Found name_bytes (λ k. k ≤ most_symbol) (λ k. k) bs n after
unfolding name_from name_bytes
name-sound bs n after e =
    let t = test_back (starts_with name_letter bs) (symbol_from (rest bs)) e in
    let f = symbol-sound (rest bs) n after t.1 in
    record { one = f.one; valid = f.valid; encodes = cc (starts name_letter bs t.0); says = f.says }

-- ---- one encoding

-- an encoded thing ends in one place only, and is one thing only
pub record Same {X : Type 0} (x y : X) (r q : List ℕ) : Type 0 where
  pub one : x ≡ y
  pub after : r ≡ q

pub name-one : (m n : ℕ) (r q : List ℕ) → m ≤ most_symbol → n ≤ most_symbol → starts_digit r ≡ false → starts_digit q ≡ false → name_bytes m ++ r ≡ name_bytes n ++ q
    → Same m n r q
name-one m n r q l k h g e =
    let f : got m r ≡ got n q = sym (name-complete m r l h) ∙ ap name_from e ∙ name-complete n q k g in
    record { one = cc; after = cc }

digit-there : {P : Type 0} (v : ℕ) (bs r : List ℕ) → v < 10 → starts_digit r ≡ false → (zero_digit + v) ∷ bs ≡ r → P
unfolding starts_digit
digit-there v bs r l h e = absurd (true≢false (sym (is-digit v l) ∙ ap starts_digit e ∙ h))

digits-one : (vs ws r q : List ℕ) → Digits vs → Digits ws → starts_digit r ≡ false → starts_digit q ≡ false → digit_bytes vs ++ r ≡ digit_bytes ws ++ q → Same vs ws r q
unfolding digit_bytes Digits
digits-one [] [] r q d f h g e = record { one = refl; after = e }
digits-one [] (w ∷ ws) r q d f h g e = digit-there w _ r f.0 h (sym e)
digits-one (v ∷ vs) [] r q d f h g e = digit-there v _ q d.0 g e
digits-one (v ∷ vs) (w ∷ ws) r q d f h g e =
    let a : 48 + v ≡ 48 + w = head-eq_of_cons-eq e in
    let b : v ≡ w = omega arith in
    let s = digits-one vs ws r q d.1 f.1 h g (tail-eq_of_cons-eq e) in
    record { one = λ i. b i ∷ s.one i; after = s.after }

point-there : {P : Type 0} (bs r : List ℕ) → starts_with point r ≡ false → point ∷ bs ≡ r → P
unfolding starts_with
point-there bs r h e = absurd (true≢false (ap (starts_with point) e ∙ h))

module _ (r q : List ℕ) (h : starts_digit r ≡ false) (g : starts_digit q ≡ false) (i : starts_with point r ≡ false) (j : starts_with point q ≡ false) where
  decimals-one : (vs ws : List ℕ) → Digits vs → Digits ws → decimal_bytes vs ++ r ≡ decimal_bytes ws ++ q → Same vs ws r q
  unfolding decimal_bytes
  decimals-one [] [] d f e = record { one = refl; after = e }
  decimals-one [] (w ∷ ws) d f e = point-there _ r i (sym e)
  decimals-one (v ∷ vs) [] d f e = point-there _ q j e
  decimals-one (v ∷ vs) (w ∷ ws) d f e = digits-one (v ∷ vs) (w ∷ ws) r q d f h g (tail-eq_of_cons-eq e)

  no-decimal-digit : (vs after : List ℕ) → starts_digit after ≡ false → starts_digit (decimal_bytes vs ++ after) ≡ false
  unfolding decimal_bytes starts_digit
  no-decimal-digit [] after k = k
  no-decimal-digit (v ∷ vs) after k = refl

  unsigned-one : (m : Bool) (ds es cs fs : List ℕ) → Valid (numeral m ds es) → Valid (numeral m cs fs)
      → digit_bytes ds ++ (decimal_bytes es ++ r) ≡ digit_bytes cs ++ (decimal_bytes fs ++ q) → Same (numeral m ds es) (numeral m cs fs) r q
  unsigned-one m ds es cs fs l k e =
      let a = digits-one ds cs _ _ l.digits k.digits (no-decimal-digit es r h) (no-decimal-digit fs q g) e in
      let b = decimals-one es fs l.decimals k.decimals a.after in
      record { one = λ t. numeral m (a.one t) (b.one t); after = b.after }

  signed-one : (m n : Bool) (ds es cs fs : List ℕ) → Valid (numeral m ds es) → Valid (numeral n cs fs)
      → sign_bytes m ++ (digit_bytes ds ++ (decimal_bytes es ++ r)) ≡ sign_bytes n ++ (digit_bytes cs ++ (decimal_bytes fs ++ q)) → Same (numeral m ds es) (numeral n cs fs) r q
  unfolding sign_bytes starts_with
  signed-one true true ds es cs fs l k e = unsigned-one true ds es cs fs l k (tail-eq_of_cons-eq e)
  signed-one true false ds es cs fs l k e = absurd (true≢false (ap (starts_with minus_sign) e ∙ no_minus cs _ k.digits k.some))
  signed-one false true ds es cs fs l k e = absurd (true≢false (ap (starts_with minus_sign) (sym e) ∙ no_minus ds _ l.digits l.some))
  signed-one false false ds es cs fs l k e = unsigned-one false ds es cs fs l k e

  pub number-one : (x y : Numeral) → Valid x → Valid y → encoded x ++ r ≡ encoded y ++ q → Same x y r q
  number-one x y l k e = signed-one x.minus y.minus x.digits x.decimals y.digits y.decimals l k (sym (apart x r) ∙ e ∙ apart y q)
