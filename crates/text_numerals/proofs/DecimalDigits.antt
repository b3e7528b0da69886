-- The decimal digits of a number: they make it, and digits of which the first is not 0 are those of the number that they make. Assumes nothing.
use Prim.Native.Nat.{ℕ, zero, suc, ◌+◌, ◌*◌, ◌/◌, ◌%◌, ◌^◌, ◌≤◌, ◌<◌}
use native.Mathlib.Nat.{le_of_suc-le-suc, eq-or-lt_of_le, mul_comm, add-zero, mul-one, mul-le-mul_right, mod-lt, mod-one, mod-eq_of_lt, le-div_iff_mul-le, div-lt_iff_lt-mul, pow-suc, pow-succ', pow-le-pow_right}
use native.Mathlib.Omega.{arith}
use mathlib.Core.Path.{◌≡◌, refl, sym, ap, ◌∙◌, subst}
use mathlib.Core.Logic.{inl, inr}
use mathlib.Core.Bool.{Bool, true, false, cond}
use mathlib.Core.List.{List, [], ◌∷◌, ◌++◌}
use borrow.Author.Tests.{ne_eqb, ltb-true, ltb-false}
use lib.ListN.{length}
use lib.Arith.{digits_lt, digits_div, digits_mod, mod-mul}
use lib.Dec.{ltb}
use Rattle.text_numerals.specs.Numeral.{zero_digit, Digits, digit_bytes, value_from, lowest, width_of, decimal}
use Rattle.text_numerals.specs.inside.Reading.{starts_with}
use Rattle.text_numerals.proofs.Quotient.{ten-pos}

pub lowest-digits : (k n : ℕ) → Digits (lowest k n)
unfolding Digits lowest
lowest-digits zero n = tt
lowest-digits (suc k) n = (mod-lt (n / 10 ^ k) (omega arith), lowest-digits k n)

pub lowest-length : (k n : ℕ) → length (lowest k n) ≡ k
unfolding lowest
lowest-length zero n = refl
lowest-length (suc k) n = ap suc (lowest-length k n)

-- digits behind a number
pub value-split : (a : ℕ) (vs : List ℕ) → value_from a vs ≡ a * 10 ^ length vs + value_from 0 vs
unfolding value_from
value-split a [] = sym (add-zero (a * 1) ∙ mul-one a)
value-split a (v ∷ vs) =
    let p = 10 ^ length vs in
    let e : 10 ^ suc (length vs) ≡ p * 10 = pow-suc 10 (length vs) in
    omega (arith, value-split (a * 10 + v) vs, value-split (0 * 10 + v) vs, ap (λ (z : ℕ). a * z) e)

-- the first digit, and the others
first-of : (v : ℕ) (vs : List ℕ) → value_from 0 (v ∷ vs) ≡ v * 10 ^ length vs + value_from 0 vs
unfolding value_from
first-of v vs = omega (arith, value-split (0 * 10 + v) vs)

pub value-below : (vs : List ℕ) → Digits vs → value_from 0 vs < 10 ^ length vs
unfolding value_from Digits
value-below [] d = omega arith
value-below (v ∷ vs) d =
    let l : v * 10 ^ length vs + value_from 0 vs < 10 * 10 ^ length vs = digits_lt d.0 (value-below vs d.1) in
    omega (arith, first-of v vs, pow-succ' 10 (length vs))

-- the k lowest digits behind a number
pub lowest-value : (k a n : ℕ) → value_from a (lowest k n) ≡ a * 10 ^ k + n % 10 ^ k
unfolding value_from lowest
lowest-value zero a n = sym (ap (λ (z : ℕ). a * 1 + z) (mod-one n) ∙ omega arith)
lowest-value (suc k) a n =
    let p = 10 ^ k in
    let v = n / p % 10 in
    let q : 10 ^ suc k ≡ 10 * p = pow-suc 10 k ∙ mul_comm p 10 in
    let e : n % 10 ^ suc k ≡ v * p + n % p = ap (λ (z : ℕ). n % z) q ∙ mod-mul n {m = 10} {c = p} (omega arith) (ten-pos k) in
    omega (arith, lowest-value k (a * 10 + v) n, ap (λ (z : ℕ). a * z) q)

-- digits are the lowest ones of the number that they make
pub lowest-back : (a : ℕ) (vs : List ℕ) → Digits vs → lowest (length vs) (value_from a vs) ≡ vs
unfolding value_from Digits lowest
lowest-back a [] d = refl
lowest-back a (v ∷ vs) d =
    let p = 10 ^ length vs in
    let q : value_from (a * 10 + v) vs / p ≡ a * 10 + v = ap (λ (z : ℕ). z / p) (value-split (a * 10 + v) vs) ∙ digits_div (a * 10 + v) (value-below vs d.1) in
    let e : value_from (a * 10 + v) vs / p % 10 ≡ v = ap (λ (z : ℕ). z % 10) q ∙ digits_mod a d.0 in
    λ i. e i ∷ lowest-back (a * 10 + v) vs d.1 i

-- w digits hold n, and fewer, but for one, do not
pub record Wide (n w : ℕ) : Type 0 where
  pub some : 0 < w
  pub room : n < 10 ^ w
  pub least : (k : ℕ) → 0 < k → k < w → 10 ^ k ≤ n

pub wide : (n : ℕ) → n < 100000000 → Wide n (width_of n)
unfolding width_of
wide n h =
    by 0 _ (λ k p l. absurd (omega arith)) (λ a. by 1 _ a (λ b. by 2 _ b (λ c. by 3 _ c (λ d. by 4 _ d (λ e. by 5 _ e (λ f. by 6 _ f (λ g.
    record { some = omega arith; room = h; least = g })))))))
  where
    -- no number of digits up to w is enough
    Short : ℕ → Type 0
    Short w = (k : ℕ) → 0 < k → k < suc w → 10 ^ k ≤ n

    by : (w r : ℕ) → Short w → (Short (suc w) → Wide n r) → Wide n (cond (ltb n (10 ^ suc w)) (suc w) r)
    by w r s k = go (ltb n (10 ^ suc w)) refl
      where
        go : (t : Bool) → ltb n (10 ^ suc w) ≡ t → Wide n (cond t (suc w) r)
        go true q = record { some = omega arith; room = ltb-true n (10 ^ suc w) q; least = s }
        go false q = k (λ j p l. elim (eq-or-lt_of_le (le_of_suc-le-suc l)) [
          | inl e ↦ subst (λ (z : ℕ). 10 ^ z ≤ n) (sym e) (ltb-false n (10 ^ suc w) q)
          | inr m ↦ s j p m
        ])

-- of a number that is not 0 every smaller power of ten is at most the number
powers-within : (n w : ℕ) → Wide n w → 0 < n → (k : ℕ) → k < w → 10 ^ k ≤ n
powers-within n w f h zero l = h
powers-within n w f h (suc k) l = f.least (suc k) (omega arith) l

pub decimal-digits : (n : ℕ) → Digits (decimal n)
unfolding decimal
decimal-digits n = lowest-digits (width_of n) n

pub decimal-value : (n : ℕ) → n < 100000000 → value_from 0 (decimal n) ≡ n
unfolding decimal
decimal-value n h = omega (arith, lowest-value (width_of n) 0 n, mod-eq_of_lt (wide n h).room)

-- a number has one width
wide-one : (n w k : ℕ) → Wide n w → 10 ^ k ≤ n → n < 10 ^ suc k → w ≡ suc k
wide-one n w k f least most =
    let a : ¬ (w ≤ k) = λ l. let z : 10 ^ w ≤ 10 ^ k = pow-le-pow_right (let z : 0 < 10 = omega arith in z) l in omega (arith, f.room) in
    let b : ¬ (suc k < w) = λ l. let z : 10 ^ suc k ≤ n = f.least (suc k) (omega arith) l in omega arith in
    omega arith

-- digits of which the first is not 0 are the decimal digits of their number
pub decimal-back : (v : ℕ) (vs : List ℕ) → Digits (v ∷ vs) → 0 < v → value_from 0 (v ∷ vs) < 100000000 → decimal (value_from 0 (v ∷ vs)) ≡ v ∷ vs
unfolding decimal
decimal-back v vs d h l =
    let n = value_from 0 (v ∷ vs) in
    let p = 10 ^ length vs in
    let c : p ≤ n = let a : 1 * p ≤ v * p = mul-le-mul_right p h in omega (arith, first-of v vs) in
    ap (λ (w : ℕ). lowest w n) (wide-one n (width_of n) (length vs) (wide n l) c (value-below (v ∷ vs) d)) ∙ lowest-back 0 (v ∷ vs) d

-- the first digit of a number that is not 0
pub not-zero : (n w : ℕ) (after : List ℕ) → Wide n w → 0 < n → starts_with zero_digit (digit_bytes (lowest w n) ++ after) ≡ false
unfolding starts_with digit_bytes lowest
not-zero n zero after f h = absurd (let z : 1 ≤ 0 = f.some in omega arith)
not-zero n (suc k) after f h =
    let p = 10 ^ k in
    let a : 1 ≤ n / p = (le-div_iff_mul-le (ten-pos k)).1 (omega (arith, powers-within n (suc k) f h k (omega arith))) in
    let b : n / p < 10 = (div-lt_iff_lt-mul (ten-pos k)).1 (omega (arith, f.room, pow-succ' 10 k)) in
    ne_eqb (48 + n / p % 10) 48 (λ (e : 48 + n / p % 10 ≡ 48). let m : n / p % 10 ≡ n / p = mod-eq_of_lt b in omega arith)
