use Prim.Native.Nat.{ℕ, ◌*◌, ◌%◌, ◌^◌, ◌≤◌}
use mathlib.Core.Path.{◌≡◌, ◌∙◌}
use native.Mathlib.Nat.{one-mul, mod-lt, lt_of_lt_of_le}
use native.Mathlib.Omega.{arith}
use lib.Pow.{shl_exact, pow_pos, pow_mono}
use Rattle.base_bitstream.proofs.low_bits.Goals as goal

left : (n : ℕ) → n ≤ 32 → 1 * 2 ^ n % 2 ^ 64 ≡ 2 ^ n
left n h = shl_exact {a = 1} 1 n 64 (omega arith) (omega arith) ∙ one-mul (2 ^ n)

pub nonzero_rem-result : goal.nonzero_rem-result
nonzero_rem-result c =
    rw (left c.args.n c.requires) (pow_pos c.args.n)

pub overflow_cast-result : goal.overflow_cast-result
overflow_cast-result c =
    rw (left c.args.n c.requires) (record { fits = lt_of_lt_of_le (mod-lt c.args.x (pow_pos c.args.n)) (pow_mono {j = 32} c.requires) })

pub returns : goal.returns
returns c =
    rw (left c.args.n c.requires)
