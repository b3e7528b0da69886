-- A tempo times 1,024 is exact. Assumes nothing.
use Rattle.std.proofs.Common.{◌≡◌, ℕ, zero, suc, ◌+◌, ◌-◌, ◌*◌, ◌/◌, ◌%◌, ◌^◌, ◌<◌, ◌≤◌, min, Bool, true, false, ◌&&◌, T, eqb, ltb, leb, ℤ, pos, negsuc, sym, refl, ap, ◌∙◌, subst, true≢false, lt_of_lt_of_le, lt_of_le_of_lt, mul_assoc, div-lt_iff_lt-mul, lt_of_mul-lt-mul_right, mul-lt-mul_of_pos_right, mul-one, mul_right_comm, arith, ltb→lt, lt→ltb, leb→le, pow_pos, pow_mono, pow-add, shl_lt}
use mathlib.Core.Bool.{and-false}
use denote.Floats.{passes}
use lib.Ieee.{Float, nan, inf, fin, binary32, up, down, lt, le, mul, fits, to_unsigned}
use lib.Ieee.Exact.{HasValue, round_exact}
use lib.Ieee.Fits.{down_pos}
use lib.Ieee.Nearest.{div_same}
use lib.Ieee.Positive.{num, den, positive, values_of_le, own_value, between}
use Rattle.base_timebase.proofs.Shift.{pow_le_back}
use Rattle.base_timebase.specs.Time.{cycle_of, cycle_in, slowest, fastest}

-- what a value a / c below 2 ^ 64 is as a whole number
pub record Cut (y : Float) (n : ℕ) : Type 0 where
  pub above : T (lt (fin true 1 (pos 0)) y)
  pub below : T (lt y (fin false 1 (pos 64)))
  pub is : to_unsigned 64 y ≡ n

pub cut : (y : Float) (a c : ℕ) → 0 < c → HasValue y false a c → a < 2 ^ 64 * c → Cut y (a / c)
unfolding lt to_unsigned
cut nan a c p h l = absurd h
cut (inf s) a c p h l = absurd h
cut (fin true m e) a c p h l = absurd (true≢false h.0)
cut (fin false m e) a c p h l =
    let d = down e in
    let b : m * up e < 2 ^ 64 * d =
    lt_of_mul-lt-mul_right c (subst (λ (n : ℕ). n < 2 ^ 64 * d * c) (sym h.1) (subst (λ (n : ℕ). a * d < n) (mul_right_comm (2 ^ 64) c d) (mul-lt-mul_of_pos_right l (down_pos e)))) in
    let v : m * up e / d ≡ a / c = div_same (m * up e) d a c (down_pos e) p h.1 in
    let w : a / c < 2 ^ 64 = (div-lt_iff_lt-mul p).1 l in
    let u : min (a / c) (2 ^ 64 - 1) ≡ a / c = omega arith in
    record {
      above = lt→ltb 0 (1 * 1 * d + m * up e * 1) (omega (arith, down_pos e));
      below = lt→ltb (m * up e * 1) (1 * 2 ^ 64 * d) (omega arith);
      is = ap (λ (n : ℕ). min n (2 ^ 64 - 1)) v ∙ u;
    }

-- the parts of `fits`
parts : (a b c d : Bool) → T (a && b && c && d) → T b × T c
parts true true true true t = (tt, tt)
parts false b c d t = elim t [ ]
parts true false c d t = elim t [ ]
parts true true false d t = elim t [ ]
parts true true true false t = elim t [ ]

fits-parts : (s : Bool) (m : ℕ) (e : ℤ) → T (fits binary32 (fin s (suc m) e)) → (suc m < 2 ^ 24) × (down e ≤ 2 ^ 149)
unfolding fits
fits-parts s m e t =
    let p = parts (eqb (suc m % 2) 1) (ltb (suc m) (2 ^ 24)) (leb (down e) (2 ^ 149)) (ltb (suc m * up e) (2 ^ 128 * down e)) t in
    (ltb→lt (suc m) (2 ^ 24) p.0, leb→le (down e) (2 ^ 149) p.1)

abbrev scale : Float
scale = fin false 1 (pos 10)

-- up to 960, a value times 1,024 has no more digits than the value, and is no infinity
exact : (m : ℕ) (e : ℤ) → T (fits binary32 (fin false (suc m) e)) → suc m * up e * 1 ≤ 960 * down e
    → HasValue (mul binary32 (fin false (suc m) e) scale) false (suc m * up e * 1024) (down e * 1)
unfolding mul
exact m (pos k) t h =
    let M = suc m in
    let q : M * 2 ^ k * 1024 * 2 ^ 149 ≡ M * 2 ^ (k + 159) * 1 =
    mul_assoc (M * 2 ^ k) 1024 (2 ^ 149) ∙ mul_assoc M (2 ^ k) (2 ^ 159) ∙ sym (rw (mul-one, pow-add 2 k 159)) in
    let l : M * 2 ^ k < 2 ^ 118 = small (M * 2 ^ k) h in
    let b : M * 2 ^ (k + 159) < 2 ^ 277 = rw (pow-add 2 k 159, ← mul_assoc) (mul-lt-mul_of_pos_right l (pow_pos 159)) in
    round_exact binary32 false (M * 2 ^ k * 1024) 1 M (k + 159) (omega arith) (fits-parts false m (pos k) t).0 b q
  where
    small : (n : ℕ) → n * 1 ≤ 960 * 1 → n < 2 ^ 118
    small n g = lt_of_le_of_lt (let r : n ≤ 960 = omega arith in r) (lib.Dec.lit< tt)
exact m (negsuc k) t h =
    let M = suc m in
    let f = fits-parts false m (negsuc k) t in
    let kk : suc k ≤ 149 = pow_le_back (suc k) 149 f.1 in
    let j = 159 - suc k in
    let e : j + suc k ≡ 159 = omega arith in
    let q : M * 1 * 1024 * 2 ^ 149 ≡ M * 2 ^ j * (2 ^ suc k * 1) =
    mul_assoc (M * 1) 1024 (2 ^ 149) ∙ ap (λ (n : ℕ). n * 2 ^ 159) (mul-one M)
    ∙ cc (pow-add 2 j (suc k), mul_assoc M (2 ^ j) (2 ^ suc k), mul-one (2 ^ suc k)) in
    let b : M * 2 ^ j < 2 ^ 277 = lt_of_lt_of_le (shl_lt 24 j f.0) (pow_mono {j = 277} (omega arith)) in
    round_exact binary32 false (M * 1 * 1024) (2 ^ suc k * 1) M j (rw mul-one (pow_pos (suc k))) f.0 b q

go : (x : Float) → T (fits binary32 x) → T (positive x) → num x * 1 ≤ 960 * den x → Cut (mul binary32 x scale) (cycle_of x)
unfolding cycle_of
go nan t p h = absurd p
go (inf s) t p h = absurd p
go (fin true m e) t p h = absurd p
go (fin false zero e) t p h = absurd p
go (fin false (suc m) e) t p h =
    subst (λ (n : ℕ). Cut (mul binary32 (fin false (suc m) e) scale) (suc m * up e * 1024 / n)) (mul-one (down e))
    (cut (mul binary32 (fin false (suc m) e) scale) (suc m * up e * 1024) (down e * 1) (rw mul-one (down_pos e)) (exact m e t h) (omega (arith, down_pos e)))

pub tempo : (x : Float) → T (fits binary32 x) → le slowest x ≡ true → le x fastest ≡ true → Cut (mul binary32 x scale) (cycle_in x)
unfolding cycle_in
tempo x t p q =
    let o : T (positive x) = between slowest x fastest tt tt (passes _ p) (passes _ q) in
    subst (Cut (mul binary32 x scale)) (sym (rw (p, q)))
    (go x t o (values_of_le x fastest (num x) (den x) 960 1 o tt (own_value x o) (refl, refl) (passes _ q)))

pub not-slow : (x : Float) → le slowest x ≡ false → 0 ≡ cycle_in x
unfolding cycle_in
not-slow x p = sym (rw p)

pub not-fast : (x : Float) → le x fastest ≡ false → 0 ≡ cycle_in x
unfolding cycle_in
not-fast x p = cc (and-false (le slowest x))
