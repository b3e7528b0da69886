use Prim.Native.Nat.{◌+◌, ◌*◌, ◌/◌, ◌%◌, ◌^◌, ◌<◌}
use native.Mathlib.Nat.{div-le_self}
use native.Mathlib.Omega.{arith}
use lib.Pow.{pow_pos}
use Rattle.base_bitstream.proofs.BitValues.{with-lt}
use Rattle.base_bitstream.proofs.with_bit.Goals as goal

-- the result is a byte
whole : (c : goal.After-power-p) → (c.args.old / c.power-p.result / 2 * 2 + c.args.d) * c.power-p.result + c.args.old % c.power-p.result < 2 ^ 8
whole c = rw c.power-p.ensures (with-lt c.args.m c.args.old c.args.d (omega arith) c.ranges.old.fits (omega arith))

pub nonzero_div-result : goal.nonzero_div-result
nonzero_div-result c =
    rw c.power-p.ensures (pow_pos c.args.m)

pub overflow_mul-result : goal.overflow_mul-result
overflow_mul-result c =
    omega (arith, div-le_self c.args.old c.power-p.result, c.ranges.old.fits)

pub overflow_add-result : goal.overflow_add-result
overflow_add-result c =
    omega (arith, div-le_self c.args.old c.power-p.result, c.ranges.old.fits)

pub overflow_mul-result-2 : goal.overflow_mul-result-2
overflow_mul-result-2 c =
    omega (arith, whole c)

pub nonzero_rem-result : goal.nonzero_rem-result
nonzero_rem-result c =
    rw c.power-p.ensures (pow_pos c.args.m)

pub overflow_add-result-2 : goal.overflow_add-result-2
overflow_add-result-2 c =
    omega (arith, whole c)

pub overflow_cast-result : goal.overflow_cast-result
overflow_cast-result c =
    omega (arith, whole c)

pub returns : goal.returns
returns c =
    rw c.power-p.ensures
