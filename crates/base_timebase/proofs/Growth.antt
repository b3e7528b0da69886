-- Ticks follow the exact number: they do not fall as it grows, and so the ends of a range bound them. Assumes nothing.
use Rattle.std.proofs.Common.{◌≡◌, ℕ, ◌+◌, ◌*◌, ◌/◌, ◌<◌, ◌≤◌, true, false, ℤ, pos, sym, ap, ◌∙◌, true≢false, zero-le, le_trans, le_of_eq, mul-le-mul_right, mul_comm, mul-pos, le-div_iff_mul-le, mul_right_comm, div-mul-le_self, arith}
use lib.Ieee.{Float, nan, inf, fin, up, down, lt, eq, le}
use lib.Ieee.Fits.{down_pos}
use lib.Ieee.Nearest.{div_same}
use Rattle.base_timebase.specs.Time.{nearest, ticks_of, cycle_of, latest, slowest, fastest}
use Rattle.base_timebase.proofs.Shift.{nearest-scale}
use Rattle.base_timebase.proofs.Order.{AtMost, at_most, none}

-- ---- fractions: a / b at most c / d

div_grows : (k : ℕ) {x y : ℕ} → 0 < k → x ≤ y → x / k ≤ y / k
div_grows k {x} h l = (le-div_iff_mul-le h).1 (le_trans (div-mul-le_self x k) l)

scaled : (a b c d k : ℕ) → a * d ≤ c * b → a * k * d ≤ c * k * b
scaled a b c d k h = le_trans (le_of_eq (mul_right_comm a k d)) (le_trans (mul-le-mul_right k h) (le_of_eq (mul_right_comm c b k)))

-- to the nearest: the only law here that knows which way ticks are rounded
near-grows : (a b c d : ℕ) → 0 < b → 0 < d → a * d ≤ c * b → nearest a b ≤ nearest c d
unfolding nearest
near-grows a b c d hb hd h =
    let s : b * d * 2 ≡ d * b * 2 = ap (λ (n : ℕ). n * 2) (mul_comm b d) in
    let l : (a * d * 2 + b * d) / (b * d * 2) ≤ (c * b * 2 + b * d) / (b * d * 2) = div_grows (b * d * 2) (mul-pos (mul-pos hb hd) (omega arith)) (omega arith) in
    let z : (c * b * 2 + b * d) / (b * d * 2) ≡ nearest c d = ap (λ (n : ℕ). (c * b * 2 + n) / (n * 2)) (mul_comm b d) ∙ nearest-scale c d b hb in
    le_trans (le_of_eq (sym (nearest-scale a b d hd))) (le_trans l (le_of_eq z))

down-grows : (a b c d : ℕ) → 0 < b → 0 < d → a * d ≤ c * b → a / b ≤ c / d
down-grows a b c d hb hd h =
    let x : a * d / (b * d) ≡ a / b = div_same (a * d) (b * d) a b (mul-pos hb hd) hb (mul_right_comm a d b ∙ native.Mathlib.Nat.mul_assoc a b d) in
    let y : c * b / (b * d) ≡ c / d = div_same (c * b) (b * d) c d (mul-pos hb hd) hd (native.Mathlib.Nat.mul_assoc c b d) in
    le_trans (le_of_eq (sym x)) (le_trans (div_grows (b * d) (mul-pos hb hd) h) (le_of_eq y))

-- ---- floats

fractions : (m n : ℕ) (e d : ℤ) → le (fin false m e) (fin false n d) ≡ true → m * up e * down d ≤ n * up d * down e
unfolding le lt eq AtMost
fractions m n e d h = at_most false (m * up e * down d) false (n * up d * down e) h

-- +0 is the only float of sign plus that is at most one of sign minus
is_zero : (m n : ℕ) (e d : ℤ) → le (fin false m e) (fin true n d) ≡ true → m * up e ≡ 0
unfolding le lt eq AtMost
is_zero m n e d h = none (m * up e) (down d) (down_pos d) (at_most false (m * up e * down d) true (n * up d * down e) h).0

no-ticks : (a d : ℕ) → 0 < d → a ≡ 0 → nearest (a * 6144000) d ≤ 0
unfolding nearest
no-ticks a d h e = let z : (a * 6144000 * 2 + d) / (d * 2) ≡ 0 = native.Mathlib.Nat.div-eq_of_lt (omega arith) in omega arith

pub ticks_of-grows : (x y : Float) → le x y ≡ true → le y latest ≡ true → ticks_of x ≤ ticks_of y
unfolding ticks_of le lt eq
ticks_of-grows nan y h k = zero-le
ticks_of-grows (inf s) y h k = zero-le
ticks_of-grows (fin true m e) y h k = zero-le
ticks_of-grows (fin false m e) nan h k = absurd (true≢false (sym h))
ticks_of-grows (fin false m e) (inf true) h k = absurd (true≢false (sym h))
ticks_of-grows (fin false m e) (inf false) h k = absurd (true≢false (sym k))
ticks_of-grows (fin false m e) (fin true n d) h k = no-ticks (m * up e) (down e) (down_pos e) (is_zero m n e d h)
ticks_of-grows (fin false m e) (fin false n d) h k =
    near-grows (m * up e * 6144000) (down e) (n * up d * 6144000) (down d) (down_pos e) (down_pos d)
    (scaled (m * up e) (down e) (n * up d) (down d) 6144000 (fractions m n e d h))

pub cycle_of-grows : (x y : Float) → le slowest x ≡ true → le x y ≡ true → le y fastest ≡ true → cycle_of x ≤ cycle_of y
unfolding cycle_of le lt eq
cycle_of-grows nan y g h k = zero-le
cycle_of-grows (inf s) y g h k = zero-le
cycle_of-grows (fin true m e) y g h k = zero-le
cycle_of-grows (fin false m e) nan g h k = absurd (true≢false (sym h))
cycle_of-grows (fin false m e) (inf true) g h k = absurd (true≢false (sym h))
cycle_of-grows (fin false m e) (inf false) g h k = absurd (true≢false (sym k))
cycle_of-grows (fin false m e) (fin true n d) g h k = let u = is_zero m n e d h in let f = fractions 1 m (pos 0) e g in absurd (omega (arith, down_pos e))
cycle_of-grows (fin false m e) (fin false n d) g h k =
    down-grows (m * up e * 1024) (down e) (n * up d * 1024) (down d) (down_pos e) (down_pos d)
    (scaled (m * up e) (down e) (n * up d) (down d) 1024 (fractions m n e d h))
