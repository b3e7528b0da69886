-- What is written for a float's shortest text: its digits, what they mean and how many bytes they are. Assumes nothing.
use Prim.Native.Nat.{ℕ, zero, suc, ◌+◌, ◌-◌, ◌/◌, ◌^◌, ◌≤◌, ◌<◌}
use mathlib.Core.Path.{◌≡◌, refl, sym, ap, ◌∙◌, subst}
use mathlib.Core.Bool.{Bool, true, false}
use mathlib.Core.List.{List, [], ◌∷◌}
use native.Mathlib.Nat.{le_antisymm, le_of_suc-le-suc, lt_of_not-le, not-le_of_lt, lt_of_le_of_lt, lt_of_lt_of_le, le_of_eq, pow-suc, mod-eq_of_lt, div-add-mod', div-le_self, div-lt_iff_lt-mul, le-div_iff_mul-le}
use native.Mathlib.Omega.{arith}
use lib.ListN.{length, length-append}
use lib.Pow.{pow-add}
use Rattle.text_numerals.specs.Numeral.{digit_bytes, value_from, Valid, most_number, most_decimals, whole_of, sign_bytes, decimal_bytes, encoded, float_of, meaning, lowest, width_of, decimal, numeral_of, NoLeadingZeros, most_symbol, name_bytes}
use Rattle.text_numerals.specs.Nearest.{sign_of}
use Rattle.text_numerals.specs.Shortest.{OneText, NotBoth, ShortestWrites}
use Rattle.text_numerals.proofs.Quotient.{ten-pos, ten-mono}
use Rattle.text_numerals.proofs.DecimalDigits.{lowest-value, lowest-digits, lowest-length, Wide, wide, decimal-value}

-- ---- one text or none
no_less : {a b : ℕ} → (b < a → ⊥) → a ≤ b
no_less h = le_of_suc-le-suc (lt_of_not-le h)

pub one-text : OneText
one-text x n d k c s t =
    let e : d ≡ c = le_antisymm (no_less (λ h. s.fewest k c t.below h t.reads)) (no_less (λ h. t.fewest n d s.below h s.reads)) in
    let l : n ≤ k = no_less (λ h. s.least k h (subst (λ (z : ℕ). float_of (sign_of x) k z ≡ x) (sym e) t.reads)) in
    let m : k ≤ n = no_less (λ h. t.least n h (subst (λ (z : ℕ). float_of (sign_of x) n z ≡ x) e s.reads)) in
    (le_antisymm l m, e)

pub not-both : NotBoth
not-both x n d s t = t n d s.below s.few s.reads

-- ---- a whole number

-- a number of k digits or fewer is written with no more
decimal-length : (k n : ℕ) → 0 < k → k ≤ 8 → n < 10 ^ k → length (decimal n) ≤ k
unfolding decimal
decimal-length k n p l h =
    let w = wide n (lt_of_lt_of_le h (ten-mono l)) in
    let g : ¬ (k < width_of n) = λ g. not-le_of_lt h (w.least k p g) in
    omega (arith, lowest-length (width_of n) n)

pub no-leading-zeros : (n : ℕ) → n < 100000000 → NoLeadingZeros (decimal n)
unfolding lowest decimal
no-leading-zeros n h = go (width_of n) (wide n h)
  where
    go : (w : ℕ) → Wide n w → NoLeadingZeros (lowest w n)
    go zero s = tt
    go (suc zero) s = tt
    go (suc (suc w)) s =
        let k = suc w in
        let a : n / 10 ^ k < 10 = (div-lt_iff_lt-mul (ten-pos k)).1 (omega (arith, s.room, pow-suc 10 k)) in
        let b : 1 ≤ n / 10 ^ k = (le-div_iff_mul-le (ten-pos k)).1 (omega (arith, s.least k (omega arith) (omega arith))) in
        omega (arith, mod-eq_of_lt a)

-- ---- a number with decimals
small : (n d : ℕ) → n < most_number → n / 10 ^ d < 100000000
small n d h = lt_of_le_of_lt (div-le_self n (10 ^ d)) (omega arith)

pub whole_back : (s : Bool) (n d : ℕ) → n < most_number → whole_of (numeral_of s n d) ≡ n
unfolding whole_of numeral_of
whole_back s n d h =
    ap (λ (z : ℕ). value_from z (lowest d n)) (decimal-value (n / 10 ^ d) (small n d h)) ∙ lowest-value d (n / 10 ^ d) n ∙ div-add-mod' n (10 ^ d)

pub valid-numeral : (s : Bool) (n d : ℕ) → n < most_number → d ≤ most_decimals → Valid (numeral_of s n d)
unfolding numeral_of decimal
valid-numeral s n d h k =
    let q = n / 10 ^ d in
    record {
      digits = lowest-digits (width_of q) q;
      some = omega (arith, lowest-length (width_of q) q, (wide q (small n d h)).some);
      decimals = lowest-digits d n;
      few = omega (arith, lowest-length d n);
      below = omega (arith, whole_back s n d h);
    }

pub numeral-means : (s : Bool) (n d : ℕ) → n < most_number → meaning (numeral_of s n d) ≡ float_of s n d
unfolding meaning numeral_of
numeral-means s n d h = λ i. float_of s (whole_back s n d h i) (lowest-length d n i)

pub shortest-writes : ShortestWrites
unfolding numeral_of
shortest-writes x n d s = record {
  valid = valid-numeral (sign_of x) n d s.below s.few;
  plain = no-leading-zeros (n / 10 ^ d) (small n d s.below);
  means = numeral-means (sign_of x) n d s.below ∙ s.reads;
}

-- ---- how many bytes
bytes-length : (vs : List ℕ) → length (digit_bytes vs) ≡ length vs
unfolding digit_bytes
bytes-length [] = refl
bytes-length (v ∷ vs) = ap suc (bytes-length vs)

sign-length : (s : Bool) → length (sign_bytes s) ≤ 1
unfolding sign_bytes
sign-length true = omega arith
sign-length false = omega arith

decimals-length : (vs : List ℕ) → length (decimal_bytes vs) ≤ suc (length vs)
unfolding decimal_bytes
decimals-length [] = omega arith
decimals-length (v ∷ vs) = le_of_eq (ap suc (bytes-length (v ∷ vs)))

pub number-length : (s : Bool) (n d : ℕ) → n < most_number → d ≤ most_decimals → length (encoded (numeral_of s n d)) ≤ 10
unfolding encoded numeral_of
number-length s n d h k =
    let q = n / 10 ^ d in
    let e : 8 - d + d ≡ 8 = omega arith in
    let r : q < 10 ^ (8 - d) = (div-lt_iff_lt-mul (ten-pos d)).1 (omega (arith, ap (λ (z : ℕ). 10 ^ z) e, pow-add 10 (8 - d) d)) in
    simp length-append (omega (
      arith,
      sign-length s,
      bytes-length (decimal q),
      decimal-length (8 - d) q (omega arith) (omega arith) r,
      decimals-length (lowest d n),
      lowest-length d n,
    ))

pub name-length : (symbol : ℕ) → symbol ≤ most_symbol → length (name_bytes symbol) ≤ 6
unfolding name_bytes
name-length symbol h = omega (arith, bytes-length (decimal symbol), decimal-length 5 symbol (omega arith) (omega arith) (omega arith))
