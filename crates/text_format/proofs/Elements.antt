-- Spaces, the colon, words, names and numbers of a line: each is read where it is encoded, and nowhere else. Assumes nothing.
use Prim.Native.Nat.{ℕ, zero, suc, ◌≤◌, ◌<◌}
use native.Mathlib.Omega.{arith}
use mathlib.Core.Path.{◌≡◌, refl, ap, ◌∙◌}
use mathlib.Core.Bool.{Bool, true, false, cond}
use mathlib.Core.List.{List, [], ◌∷◌, ◌++◌, map, append_assoc}
use borrow.Author.Tests.{eqb-true}
use lib.ListN.{length, length-append}
use lib.Dec.{eqb}
use lib.Ieee.{Float}
use Rattle.base_laws.proofs.Choice.{cond-false, cond-from}
use Rattle.text_numerals.specs.Numeral.{point, Numeral, Valid, encoded, meaning, name_bytes}
use Rattle.text_numerals.specs.inside.Reading.{Read, got, and_then, starts_with, rest, is_digit, starts_digit, number_from, name_from}
use Rattle.text_numerals.proofs.Readings.{Found, not-got, then-got, test_back, starts, number-starts, number-complete, number-sound, name-complete, name-sound}
use Rattle.text_format.specs.Form.{newline, space, colon, Behind, spaces, behind_bytes, behind_name, behind_number, value_bytes, ValidName, ValidValues}
use Rattle.text_format.specs.inside.Reading.{past_spaces, gap_from, colon_from, word_from, ending, next_name, next_number, values_from}

-- ---- spaces

past-spaces : (n : ℕ) (bs : List ℕ) → starts_with space bs ≡ false → past_spaces (spaces n ++ bs) ≡ bs
unfolding past_spaces spaces starts_with
past-spaces zero [] h = refl
past-spaces zero (b ∷ bs) h = cond-false _ _ h
past-spaces (suc n) bs h = past-spaces n bs h

-- so many spaces were passed
record Passed (bs after : List ℕ) : Type 0 where
  count : ℕ
  encodes : bs ≡ spaces count ++ after

past_back : (bs : List ℕ) → Passed bs (past_spaces bs)
unfolding past_spaces spaces
past_back [] = record { count = 0; encodes = refl }
past_back (b ∷ bs) = go (eqb b space) refl (past_back bs)
  where
    go : (t : Bool) → eqb b space ≡ t → Passed bs (past_spaces bs) → Passed (b ∷ bs) (cond t (past_spaces bs) (b ∷ bs))
    go true e p = record { count = suc p.count; encodes = λ i. eqb-true b space e i ∷ p.encodes i }
    go false e p = record { count = 0; encodes = refl }

-- one space or more
pub record Gap (bs after : List ℕ) : Type 0 where
  pub more : ℕ
  pub encodes : bs ≡ spaces (suc more) ++ after

pub gap-sound : (bs : List ℕ) {u : Unit {0}} {after : List ℕ} → gap_from bs ≡ got u after → Gap bs after
unfolding gap_from past_spaces starts_with spaces
gap-sound [] e = not-got e
gap-sound (b ∷ bs) e =
    let t = test_back (eqb b space) (got tt (past_spaces (b ∷ bs))) e in
    let p = past_back bs in
    record { more = p.count; encodes = cc (eqb-true b space t.0) }

-- ---- the colon

pub colon-complete : (before behind : ℕ) (bs : List ℕ) → starts_with space bs ≡ false → colon_from (spaces before ++ (colon ∷ (spaces behind ++ bs))) ≡ got tt bs
unfolding colon_from starts_with rest
colon-complete before behind bs h = rw (past-spaces before (colon ∷ (spaces behind ++ bs)) refl, past-spaces behind bs h)

-- neither spaces nor a colon go on with the label
pub colon-parted : (before : ℕ) (bs : List ℕ) → starts_digit (spaces before ++ (colon ∷ bs)) ≡ false
unfolding spaces starts_digit
colon-parted zero bs = refl
colon-parted (suc n) bs = refl

pub record Colon (bs after : List ℕ) : Type 0 where
  pub before : ℕ
  pub behind : ℕ
  pub encodes : bs ≡ spaces before ++ (colon ∷ (spaces behind ++ after))

pub colon-sound : (bs : List ℕ) {u : Unit {0}} {after : List ℕ} → colon_from bs ≡ got u after → Colon bs after
unfolding colon_from
colon-sound bs e =
    let t = test_back (starts_with colon (past_spaces bs)) (got tt (past_spaces (rest (past_spaces bs)))) e in
    let p = past_back bs in
    let r = past_back (rest (past_spaces bs)) in
    record { before = p.count; behind = r.count; encodes = cc (starts colon (past_spaces bs) t.0) }

-- ---- words, and the end of a line

pub word_sound : (word bs : List ℕ) {u : Unit {0}} {after : List ℕ} → word_from word bs ≡ got u after → bs ≡ word ++ after
unfolding word_from
word_sound [] bs e = cc
word_sound (c ∷ cs) [] e = not-got e
word_sound (c ∷ cs) (b ∷ bs) e =
    let t = test_back (eqb b c) (word_from cs bs) e in
    λ i. eqb-true b c t.0 i ∷ word_sound cs bs t.1 i

pub ending-sound : {A : Type 0} (a : A) (bs : List ℕ) {b : A} {after : List ℕ} → ending a bs ≡ got b after → (bs ≡ newline ∷ after) × (b ≡ a)
unfolding ending
ending-sound a bs e = let t = test_back (starts_with newline bs) (got a (rest bs)) e in (cc (starts newline bs t.0), cc)

-- ---- a name and a number behind a gap

pub behind-apart : (more : ℕ) (bytes after : List ℕ) → behind_bytes more bytes ++ after ≡ spaces (suc more) ++ (bytes ++ after)
unfolding behind_bytes
behind-apart more bytes after = append_assoc (spaces (suc more)) bytes after

pub behind-gap : (more : ℕ) (bytes after : List ℕ) → starts_with space (bytes ++ after) ≡ false → gap_from (behind_bytes more bytes ++ after) ≡ got tt (bytes ++ after)
unfolding gap_from spaces starts_with
behind-gap more bytes after h = rw (behind-apart more bytes after) (ap (got tt) (past-spaces (suc more) (bytes ++ after) h))

-- neither a digit nor a point goes on with the number before: at a gap, and at a newline, it has ended
pub record Parted (bs : List ℕ) : Type 0 where
  pub no_digit : starts_digit bs ≡ false
  pub no-point : starts_with point bs ≡ false

pub behind-parted : (more : ℕ) (bytes after : List ℕ) → Parted (behind_bytes more bytes ++ after)
unfolding behind_bytes spaces starts_digit starts_with
behind-parted more bytes after = record { no_digit = refl; no-point = refl }

pub newline-parted : (after : List ℕ) → Parted (newline ∷ after)
unfolding starts_digit starts_with
newline-parted after = record { no_digit = refl; no-point = refl }

-- a name, and a number, begin with no space
pub name-here : (n : ℕ) (after : List ℕ) → starts_with space (name_bytes n ++ after) ≡ false
unfolding starts_with name_bytes
name-here n after = refl

pub number-here : (x : Numeral) (after : List ℕ) → Valid x → starts_with space (encoded x ++ after) ≡ false
unfolding is_digit
number-here x after l = number-starts space x after l refl refl

-- the float that a number means
abbrev pub value : Behind Numeral → Float
value x = meaning x.element

pub next-name-complete : (x : Behind ℕ) (after : List ℕ) → ValidName x.element → starts_digit after ≡ false → next_name (behind_name x ++ after) ≡ got x.element after
unfolding next_name
next-name-complete x after l h = rw (behind-gap x.more (name_bytes x.element) after (name-here x.element after)) (name-complete x.element after l h)

pub next-number-complete : (x : Behind Numeral) (after : List ℕ) → Valid x.element → Parted after → next_number (behind_number x ++ after) ≡ got (value x) after
unfolding next_number
next-number-complete x after l p =
    rw (behind-gap x.more (encoded x.element) after (number-here x.element after l)) (number-complete x.element after l p.no_digit p.no-point)

behind-sound : {X A : Type 0} (from : List ℕ → Read A) (bytes : X → List ℕ) (Law : X → Type 0) (means : X → A)
    → ((bs : List ℕ) (a : A) (after : List ℕ) → from bs ≡ got a after → Found bytes Law means bs a after) → (bs : List ℕ) (a : A) (after : List ℕ)
    → and_then (gap_from bs) (λ u r. from r) ≡ got a after
    → Found (λ (x : Behind X). behind_bytes x.more (bytes x.element)) (λ x. Law x.element) (λ x. means x.element) bs a after
behind-sound from bytes Law means back bs a after e =
    then-got (gap_from bs) e (λ u r i j.
    let g = gap-sound bs i in
    let f = back r a after j in
    record { one = record { more = g.more; element = f.one }; valid = f.valid; encodes = cc (behind-apart g.more (bytes f.one) after); says = f.says })

pub next-name-sound : (bs : List ℕ) (n : ℕ) (after : List ℕ) → next_name bs ≡ got n after → Found behind_name (λ x. ValidName x.element) (λ x. x.element) bs n after
unfolding next_name
next-name-sound = behind-sound name_from name_bytes ValidName (λ n. n) name-sound

pub next-number-sound : (bs : List ℕ) (v : Float) (after : List ℕ) → next_number bs ≡ got v after → Found behind_number (λ x. Valid x.element) value bs v after
unfolding next_number
next-number-sound = behind-sound number_from encoded Valid meaning number-sound

-- ---- the values of an instr line

pub values-parted : (vs : List (Behind Numeral)) (after : List ℕ) → Parted (value_bytes vs ++ (newline ∷ after))
unfolding value_bytes behind_bytes spaces starts_digit starts_with
values-parted [] after = record { no_digit = refl; no-point = refl }
values-parted (x ∷ xs) after = record { no_digit = refl; no-point = refl }

pub behind-no-newline : (more : ℕ) (bytes after : List ℕ) → starts_with newline (behind_bytes more bytes ++ after) ≡ false
unfolding behind_bytes spaces starts_with
behind-no-newline more bytes after = refl

pub values-complete : (vs : List (Behind Numeral)) (n : ℕ) (after : List ℕ) → ValidValues vs → length vs < n
    → values_from n (value_bytes vs ++ (newline ∷ after)) ≡ got (map value vs) after
unfolding values_from value_bytes ValidValues
values-complete vs zero after l h = absurd (let z : suc (length vs) ≤ 0 = h in omega arith)
values-complete [] (suc n) after l h = unfold starts_with rest in refl
values-complete (x ∷ xs) (suc n) after l h =
    let more = value_bytes xs ++ (newline ∷ after) in
    ap (values_from (suc n)) (append_assoc (behind_number x) (value_bytes xs) (newline ∷ after))
    ∙ rw (
      behind-no-newline x.more (encoded x.element) more,
      next-number-complete x more l.0 (values-parted xs after),
      values-complete xs n after l.1
          (omega arith),
    )

-- every value has a byte
pub values-room : (vs : List (Behind Numeral)) (after : List ℕ) → length vs < length (value_bytes vs ++ (newline ∷ after))
unfolding value_bytes behind_bytes spaces
values-room [] after = let z : 1 ≤ suc (length after) = omega arith in z
values-room (x ∷ xs) after = let h = simp length-append at (values-room xs after) in simp length-append (omega arith)

-- values to the end of the line
pub values-sound : (n : ℕ) (bs : List ℕ) (vs : List Float) (after : List ℕ) → values_from n bs ≡ got vs after
    → Found value_bytes ValidValues (map value) bs vs (newline ∷ after)
unfolding values_from value_bytes ValidValues
values-sound zero bs vs after e = not-got e
values-sound (suc n) bs vs after e =
    cond-from (starts_with newline bs) e (λ h f. record { one = []; valid = tt; encodes = cc (starts newline bs h); says = cc })
    (λ h f.
    then-got (next_number bs) f (λ v r i g.
    then-got (values_from n r) g (λ us q j k.
    let x = next-number-sound bs v r i in
    let xs = values-sound n r us q j in
    record {
      one = x.one ∷ xs.one;
      valid = (x.valid, xs.valid);
      encodes = cc (append_assoc (behind_number x.one) (value_bytes xs.one) (newline ∷ after));
      says =
          cc;
    })))
