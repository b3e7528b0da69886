-- Nothing is lost in the two divisions: a frequency is exactly its number over 1,024, a normalized velocity its velocity over 128.
use mathlib.Core.Path.{◌≡◌, sym, ap, ◌∙◌, subst}
use mathlib.Core.Bool.{false, true, true≢false}
use Prim.Native.Nat.{ℕ, ◌-◌, ◌+◌, ◌*◌, ◌^◌, ◌<◌, ◌≤◌}
use native.Mathlib.Nat.{le_of_lt, lt_of_le_of_lt, lt_of_lt_of_le, one-mul, mul_assoc, mul_right_comm, mul-pos, mul-le-mul_right, mul-le-mul_left}
use native.Mathlib.Omega.{arith}
use lib.Dec.{lit≤}
use lib.Pow.{pow-add, pow_pos, pow_mono}
use lib.IntN.{pos}
use lib.ListN.{get_or, get_or-eq_default}
use lib.Ieee.{Float, nan, inf, fin, binary32, up, down, of_int, div, round}
use lib.Ieee.Back.{round_whole}
use lib.Ieee.Exact.{HasValue, round_exact}
use lib.Ieee.Fits.{down_pos}
use lib.Ieee.Scale.{round_same}
use Rattle.midi_keys.specs.Keys.{table, shared, frequency_of, normalized_velocity}
use Rattle.midi_keys.proofs.Table.{entry-small}

-- a whole number over a power of two is rounded once
once : (x : Float) (t k : ℕ) → HasValue x false t 1 → div binary32 x (fin false 1 (pos k)) ≡ round binary32 false t (2 ^ k)
unfolding div
once nan t k h = absurd h
once (inf s) t k h = absurd h
once (fin true m e) t k h = absurd (true≢false h.0)
once (fin false m e) t k h =
    round_same binary32 false (m * up e * 1) (1 * 2 ^ k * down e) t (2 ^ k) (mul-pos (mul-pos (lit≤ tt) (pow_pos k)) (down_pos e)) (pow_pos k)
    (ap (λ (z : ℕ). z * 2 ^ k) h.1 ∙ mul_right_comm t (down e) (2 ^ k) ∙ mul_assoc t (2 ^ k) (down e) ∙ ap (λ (z : ℕ). t * (z * down e)) (sym (one-mul (2 ^ k))))

-- and the rounding changes nothing
shared-exact : (k t : ℕ) → k ≤ 149 → t < 2 ^ 24 → HasValue (shared k t) false t (2 ^ k)
unfolding shared of_int round
shared-exact k t K h =
    let back : 149 - k + k ≡ 149 = omega arith in
    let wide : t * 2 ^ (149 - k) ≤ 2 ^ 24 * 2 ^ (149 - k) = mul-le-mul_right (2 ^ (149 - k)) (le_of_lt h) in
    let most : 2 ^ 24 * 2 ^ (149 - k) ≤ 2 ^ 24 * 2 ^ 149 = mul-le-mul_left (2 ^ 24) (pow_mono {i = 149 - k} {j = 149} (omega arith)) in
    subst (λ (x : Float). HasValue x false t (2 ^ k)) (sym (once (round binary32 false t 1) t k (round_whole binary32 false t (le_of_lt h))))
    (round_exact binary32 false t (2 ^ k) t (149 - k) (pow_pos k) h (lt_of_le_of_lt wide (lt_of_le_of_lt most (lit≤ tt)))
    (ap (λ (z : ℕ). t * 2 ^ z) (sym back) ∙ ap (λ (z : ℕ). t * z) (pow-add 2 (149 - k) k) ∙ sym (mul_assoc t (2 ^ (149 - k)) (2 ^ k))))

pub exact : (n : ℕ) → n < 128 → HasValue (frequency_of n) false (get_or table n 0) 1024
unfolding frequency_of table
exact n h = shared-exact 10 (get_or table n 0) (lit≤ tt) (entry-small n h)

pub normalized-velocity-exact : (v : ℕ) → v < 128 → HasValue (normalized_velocity v) false v 128
unfolding normalized_velocity
normalized-velocity-exact v h = shared-exact 7 v (lit≤ tt) (lt_of_lt_of_le h (lit≤ tt))

-- past the table the frequency is +0
pub past : (n : ℕ) → 128 ≤ n → fin false 0 (pos 0) ≡ frequency_of n
unfolding table frequency_of shared of_int div round
past n h = rw (get_or-eq_default table 0 h)
