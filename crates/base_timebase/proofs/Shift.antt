-- Rounding sees only a fraction's value, and a time's ticks are one shift. Assumes nothing.
use Rattle.std.proofs.Common.{◌≡◌, ℕ, suc, ◌+◌, ◌-◌, ◌*◌, ◌/◌, ◌%◌, ◌^◌, ◌<◌, ◌≤◌, min, leb, sym, ap, ◌∙◌, subst, ap₂, le_trans, le_of_eq, mul-le-mul_right, mul_assoc, mul_comm, add-mul, mul-pos, pow-suc, mul_right_comm, not-le_of_lt, mul_left_comm, arith, pow_pos, pow_mono, pow-add, shl_lt, shl_exact, leb-false, leb-true}
use native.Mathlib.Nat.{div-eq_of_lt, mul-div-mul_right, min-eq_left, min-le_right, le-min}
use borrow.Table.Steps.{cases}
use lib.Pow.{pow-lt}
use lib.Count.{count_leading_zeros, leading_top}
use Rattle.base_timebase.specs.Time.{nearest}

-- ---- rounding to the nearest
pub nearest-scale : (a c k : ℕ) → 0 < k → nearest (a * k) (c * k) ≡ nearest a c
unfolding nearest
nearest-scale a c k hk =
    ap₂ (λ (x y : ℕ). x / y) (ap (λ (x : ℕ). x + c * k) (mul_right_comm a k 2) ∙ sym (add-mul (a * 2) c k)) (mul_right_comm c k 2)
    ∙ mul-div-mul_right (a * 2 + c) (c * 2) hk

pub nearest-cross : (a b c d : ℕ) → 0 < b → 0 < d → a * d ≡ c * b → nearest a b ≡ nearest c d
nearest-cross a b c d hb hd e = sym (nearest-scale a b d hd) ∙ ap₂ nearest e (mul_comm b d) ∙ nearest-scale c d b hb

-- ---- the shift

-- What the count z of leading zeros tells of a significand m, where m * 2 ^ (e - 1) is at most 2 ^ 163.
pub record Top (m e z : ℕ) : Type 0 where
  pub few : z < 32
  pub reach : e + 3 ≤ 136 + z
  pub positive : 0 < m * 2 ^ z
  pub below : m * 2 ^ z < 2 ^ 32

pub pow_le_back : (i k : ℕ) → 2 ^ i ≤ 2 ^ k → i ≤ k
pow_le_back i k h = cases (leb i k) (leb-true i k) (λ n. absurd (not-le_of_lt (pow-lt (leb-false i k n)) h))

pub top : (m e : ℕ) → 0 < m → 0 < e → m < 2 ^ 32 → m * 2 ^ (e - 1) ≤ 2 ^ 163 → Top m e (count_leading_zeros 32 m)
top m e p o h b =
    let t = leading_top 32 m p h in
    let k = t.0 in
    let z = count_leading_zeros 32 m in
    let j = e - 1 in
    let f : z + suc k ≡ 32 = t.1 in
    let g : k + j ≤ 163 = pow_le_back (k + j) 163 (le_trans (le_of_eq (pow-add 2 k j)) (le_trans (mul-le-mul_right (2 ^ j) t.2) b)) in
    let q : suc k + z ≡ 32 = omega arith in
    record {
      few = omega arith;
      reach = omega arith;
      positive = mul-pos p (pow_pos z);
      below = subst (λ (n : ℕ). m * 2 ^ z < 2 ^ n) q (shl_lt (suc k) z t.3);
    }

regroup : (m x k y : ℕ) → m * x * k * y ≡ m * (x * y) * k
regroup m x k y = simp (mul_assoc, mul_comm)

regroup2 : (m x y k : ℕ) → m * (x * y) * k ≡ m * y * (k * x)
regroup2 m x y k = simp (mul_assoc, mul_comm, mul_left_comm)

-- one distance s, from the exponent and the count z
pub one_shift : (m e z s : ℕ) → 0 < e → s + e ≡ 136 + z → nearest (m * 2 ^ z * 375) (2 ^ s) ≡ nearest (m * 2 ^ (e - 1) * 6144000) (2 ^ 149)
one_shift m e z s o d =
    let j = e - 1 in
    let p : 2 ^ j * 2 ^ s ≡ 2 ^ 135 * 2 ^ z = sym (pow-add 2 j s) ∙ ap (λ (k : ℕ). 2 ^ k) (let f : j + s ≡ 135 + z = omega arith in f) ∙ pow-add 2 135 z in
    sym
    (nearest-cross (m * 2 ^ j * 6144000) (2 ^ 149) (m * 2 ^ z * 375) (2 ^ s) (pow_pos 149) (pow_pos s)
    (regroup m (2 ^ j) 6144000 (2 ^ s)
    ∙ ap (λ (x : ℕ). m * x * 6144000) p
    ∙ regroup2 m (2 ^ 135) (2 ^ z) 6144000
    ∙ sym (mul_assoc (m * 2 ^ z) 375 (2 ^ 149))))

-- less than a half
far : (a s : ℕ) → a * 2 < 2 ^ s → nearest a (2 ^ s) ≡ 0
unfolding nearest
far a s h = div-eq_of_lt (omega arith)

-- every distance past the farthest gives what the farthest gives
pub held : (a s : ℕ) → a < 2 ^ 41 → nearest a (2 ^ min s 63) ≡ nearest a (2 ^ s)
held a s h =
    cases (leb s 63) (λ l. cc (min-eq_left (leb-true s 63 l)))
    (λ n.
    let l : 63 < s = leb-false s 63 n in
    let k : 2 ^ 42 ≤ 2 ^ s = pow_mono {i = 42} (omega arith) in
    let m : min s 63 ≡ 63 = omega arith in
    cc (far a 63 (omega arith), far a s (omega arith)))

-- the half that is added before the shift
pub half-added : (p s : ℕ) → 0 < s → (p + 2 ^ s / 2) / 2 ^ s ≡ nearest p (2 ^ s)
unfolding nearest
half-added p s h =
    let e : 2 ^ s ≡ 2 ^ (s - 1) * 2 = ap (λ (n : ℕ). 2 ^ n) (let f : s ≡ suc (s - 1) = omega arith in f) ∙ pow-suc 2 (s - 1) in
    let g : p * 2 + 2 ^ s ≡ (p + 2 ^ s / 2) * 2 = omega arith in
    sym (ap (λ (n : ℕ). n / (2 ^ s * 2)) g ∙ mul-div-mul_right (p + 2 ^ s / 2) (2 ^ s) (omega arith))

-- the product p that is shifted down, the distance d, and what the shift gives
pub record Down (m e p d : ℕ) : Type 0 where
  pub small : p < 2 ^ 41
  pub some : 0 < d
  pub near : d ≤ 63
  pub ticks : (p + 2 ^ d / 2) / 2 ^ d ≡ nearest (m * 2 ^ (e - 1) * 6144000) (2 ^ 149)

pub down_by : (m e z p d : ℕ) → 0 < e → Top m e z → p ≡ m * 2 ^ z * 375 → d ≡ min (136 + z - e) 63 → Down m e p d
down_by m e z p d o t hp hd =
    let s = 136 + z - e in
    let r = t.reach in
    let b = t.below in
    let small : p < 2 ^ 41 = omega arith in
    let h : 1 ≤ min s 63 = le-min (omega arith) (omega arith) in
    let some : 0 < d = omega arith in
    record {
      small = small;
      some = some;
      near = omega (arith, min-le_right s 63);
      ticks = cc (half-added p d some, held p s small, one_shift m e z s o (omega arith));
    }

pub shift_is : (m z : ℕ) → m * 2 ^ z < 2 ^ 32 → (m * 2 ^ z) % 2 ^ 32 ≡ m * 2 ^ z
shift_is m z h = native.Mathlib.Nat.mod-eq_of_lt h

pub one_left : (s : ℕ) → s ≤ 63 → (1 * 2 ^ s) % 2 ^ 64 ≡ 2 ^ s
one_left s h = shl_exact {a = 1} 1 s 64 (omega arith) (omega arith) ∙ native.Mathlib.Nat.one-mul (2 ^ s)
