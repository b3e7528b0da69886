-- Floats in units of 2 ^ -149, the smallest: one float is one number of units, and what n / c is rounded to is less than one from n, times c,
-- for n below 2 ^ 24 and c at most 1,000. Assumes nothing.
use Prim.Native.Nat.{ℕ, zero, suc, ◌+◌, ◌-◌, ◌*◌, ◌/◌, ◌%◌, ◌^◌, ◌≤◌, ◌<◌}
use mathlib.Core.Path.{◌≡◌, refl, sym, ap, ◌∙◌, subst}
use mathlib.Core.Bool.{Bool, true, false, ◌&&◌}
use native.Mathlib.Nat.{le_trans, le_of_eq, le_of_suc-le-suc, lt_of_le_of_lt, lt_of_lt_of_le, lt_of_not-le, not-le_of_lt, zero-mul, mul-one, mul_assoc, mul-le-mul_left, mul-le-mul_right, mul-lt-mul_of_pos_right, lt_of_mul-lt-mul_right, le-div_iff_mul-le, suc-mul, mul-pos}
use native.Mathlib.Omega.{arith}
use lib.Dec.{T, lit≤, eqb, ltb, leb, ltb→lt, leb→le}
use lib.Pow.{pow-add, pow_pos, pow-lt}
use lib.IntN.{ℤ, pos, negsuc}
use lib.Ieee.{Float, nan, inf, fin, binary32, up, down, size, round, fits}
use lib.Ieee.Digits.{size_reaches}
use lib.Ieee.Fits.{round_is}
use lib.Ieee.Exact.{HasValue, units_val}
use lib.Ieee.Order.{drop, kept}
use lib.Ieee.Scale.{grid, overflow, finite}
use Rattle.text_numerals.specs.Numeral.{most_number}
use Rattle.text_numerals.specs.Nearest.{sign_of}
use Rattle.text_numerals.proofs.Closest.{Half, half}

-- a fraction that a number in text can be
pub record Fraction (n c : ℕ) : Type 0 where
  pub below : n < most_number
  pub some : 0 < c
  pub most : c ≤ 1000

fine-at : (n c k z : ℕ) → Fraction n c → size (n * 2 ^ 149 / c) ≡ z → z - 24 ≡ k → c * 2 ^ k < 2 ^ 150
fine-at n c zero z f e g = lt_of_le_of_lt (le_trans (le_of_eq (mul-one c)) f.most) (lit≤ tt)
fine-at n c (suc k) z f e g =
    let a : 2 ^ (23 + suc k) ≤ n * 2 ^ 149 / c = size_reaches (n * 2 ^ 149 / c) (23 + suc k) (subst (λ (x : ℕ). 23 + suc k < x) (sym e) (all_but z k g)) in
    let b : 2 ^ (23 + suc k) * c ≤ n * 2 ^ 149 = (le-div_iff_mul-le f.some).0 a in
    let h : c * 2 ^ suc k * 2 ^ 23 ≡ 2 ^ (23 + suc k) * c = omega (arith, ap (λ (x : ℕ). x * c) (pow-add 2 23 (suc k))) in
    lt_of_mul-lt-mul_right (2 ^ 23) (lt_of_le_of_lt (le_trans (le_of_eq h) b) (mul-lt-mul_of_pos_right f.below (pow_pos 149)))
  where
    all_but : (z k : ℕ) → z - 24 ≡ suc k → 23 + suc k < z
    all_but z k e = omega arith

pub swap : (q c k : ℕ) → q * (c * 2 ^ k) ≡ q * 2 ^ k * c
swap q c k = omega arith

pinch : (w b a p r : ℕ) → Half a b r w → b < p * 2 → (w < a + p) × (a < w + p)
pinch w b a p r h l = (omega (arith, h.within), omega (arith, h.within))

-- less than one from n, times c
pub close : (n c : ℕ) → Fraction n c → (grid binary32 n c * c < n * 2 ^ 149 + 2 ^ 149) × (n * 2 ^ 149 < grid binary32 n c * c + 2 ^ 149)
close n c f =
    let k = drop 24 (n * 2 ^ 149) c in
    subst (λ (x : ℕ). (x < n * 2 ^ 149 + 2 ^ 149) × (n * 2 ^ 149 < x + 2 ^ 149)) (swap (kept 24 (n * 2 ^ 149) c) c k)
    (pinch _ (c * 2 ^ k) (n * 2 ^ 149) (2 ^ 149) _ (half (n * 2 ^ 149) (c * 2 ^ k) (mul-pos f.some (pow_pos k))) (fine-at n c k _ f refl refl))

grid-small : (n c : ℕ) → Fraction n c → grid binary32 n c < overflow binary32
grid-small n c f =
    lt_of_le_of_lt (le_trans (le_of_eq (sym (mul-one (grid binary32 n c)))) (mul-le-mul_left (grid binary32 n c) f.some))
    (lt_of_lt_of_le (close n c f).0 (le_trans (le_of_eq (sym (suc-mul n (2 ^ 149)))) (le_trans (mul-le-mul_right (2 ^ 149) f.below) (lit≤ tt))))

pub value : (s : Bool) (n c : ℕ) → Fraction n c → HasValue (round binary32 s n c) s (grid binary32 n c) (2 ^ 149)
value s n c f =
    subst (λ (z : Float). HasValue z s (grid binary32 n c) (2 ^ 149)) (sym (round_is binary32 s n c))
    (units_val binary32 s (kept 24 (n * 2 ^ 149) c) (drop 24 (n * 2 ^ 149) c) (grid-small n c f))

pub finite-value : (x : Float) (s : Bool) (a c : ℕ) → HasValue x s a c → T (finite x)
finite-value nan s a c h = absurd h
finite-value (inf t) s a c h = absurd h
finite-value (fin t m e) s a c h = tt

pub sign-of-value : (x : Float) (s : Bool) (a c : ℕ) → HasValue x s a c → sign_of x ≡ s
unfolding sign_of
sign-of-value nan s a c h = absurd h
sign-of-value (inf t) s a c h = absurd h
sign-of-value (fin t m e) s a c h = h.0

pub sign-of-round : (s : Bool) (n c : ℕ) → Fraction n c → sign_of (round binary32 s n c) ≡ s
sign-of-round s n c f = sign-of-value (round binary32 s n c) s (grid binary32 n c) (2 ^ 149) (value s n c f)

-- ---- a float is so many units
pub record Units (m : ℕ) (e : ℤ) : Type 0 where
  pub digits : ℕ
  pub shift : ℕ
  pub few : digits < 2 ^ 24
  pub is : m * up e * 2 ^ 149 ≡ digits * 2 ^ shift * down e

parts : (a b c d : Bool) → T (a && b && c && d) → T b × T c
parts false b c d t = elim t [ ]
parts true false c d t = elim t [ ]
parts true true false d t = elim t [ ]
parts true true true false t = elim t [ ]
parts true true true true t = (tt, tt)

meet : (k : ℕ) → suc k ≤ 149 → 149 - suc k + suc k ≡ 149
meet k h = omega arith

pub units_of : (s : Bool) (m : ℕ) (e : ℤ) → T (fits binary32 (fin s m e)) → Units m e
unfolding fits
units_of s zero e t = record { digits = 0; shift = 0; few = omega arith; is = simp zero-mul }
units_of s (suc m) (pos j) t =
    let p = parts (eqb (suc m % 2) 1) (ltb (suc m) (2 ^ 24)) (leb (down (pos j)) (2 ^ 149)) (ltb (suc m * up (pos j)) (2 ^ 128 * down (pos j))) t in
    record {
      digits = suc m;
      shift = j + 149;
      few = ltb→lt (suc m) (2 ^ 24) p.0;
      is = mul_assoc (suc m) (2 ^ j) (2 ^ 149) ∙ ap (λ (z : ℕ). suc m * z) (sym (pow-add 2 j 149)) ∙ sym (mul-one (suc m * 2 ^ (j + 149)));
    }
units_of s (suc m) (negsuc k) t =
    let p = parts (eqb (suc m % 2) 1) (ltb (suc m) (2 ^ 24)) (leb (down (negsuc k)) (2 ^ 149)) (ltb (suc m * up (negsuc k)) (2 ^ 128 * down (negsuc k))) t in
    let l : suc k ≤ 149 = le_of_suc-le-suc (lt_of_not-le (λ (g : 150 ≤ suc k). not-le_of_lt (pow-lt g) (leb→le (2 ^ suc k) (2 ^ 149) p.1))) in
    record {
      digits = suc m;
      shift = 149 - suc k;
      few = ltb→lt (suc m) (2 ^ 24) p.0;
      is = ap (λ (z : ℕ). z * 2 ^ 149) (mul-one (suc m)) ∙ ap (λ (z : ℕ). suc m * 2 ^ z) (sym (meet k l)) ∙ ap (λ (z : ℕ). suc m * z) (pow-add 2 (149 - suc k) (suc k))
          ∙ sym (mul_assoc (suc m) (2 ^ (149 - suc k)) (2 ^ suc k));
    }
