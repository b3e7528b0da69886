use Rattle.std.proofs.Common.{◌≡◌, ◌*◌, ◌%◌, ◌^◌, ◌≤◌, arith, pow_mono}
use lib.Count.{count_leading_zeros}
use Rattle.base_timebase.proofs.Shift.{Top, top, Down, down_by, one_left}
use Rattle.base_timebase.proofs.shifted.Goals as goal

at : (c : goal.Start) → Top c.args.significand c.args.exponent (count_leading_zeros 32 c.args.significand)
at c = top c.args.significand c.args.exponent c.requires.0 c.requires.1 c.ranges.significand.fits c.requires.2

down : (c : goal.After-distance-down) → Down c.args.significand c.args.exponent c.scaled-product.result c.distance-down.result
down c = down_by _ _ _ _ _ c.requires.1 (at c.before.before) c.scaled-product.ensures c.distance-down.ensures

tick : (c : goal.After-distance-down) → 1 * 2 ^ c.distance-down.result % 2 ^ 64 ≡ 2 ^ c.distance-down.result
tick c = one_left c.distance-down.result (down c).near

pub scaled-product-requires : goal.scaled-product-requires
scaled-product-requires c =
    ((at c).few, (at c).below)

pub distance-down-requires : goal.distance-down-requires
distance-down-requires c =
    (omega (arith, (at c.before).reach), (at c.before).few)

pub overflow_shl-tick : goal.overflow_shl-tick
overflow_shl-tick c =
    omega (arith, (down c).near)

pub half_of-requires : goal.half_of-requires
half_of-requires c =
    let h : 2 ^ 1 ≤ 2 ^ c.distance-down.result = pow_mono {i = 1} (down c).some in
    rw (tick c) (omega arith)

pub overflow_add-result : goal.overflow_add-result
overflow_add-result c =
    let h : 2 ^ c.distance-down.result ≤ 2 ^ 63 = pow_mono {j = 63} (down c.before).near in
    omega (arith, (down c.before).small, c.half_of.ensures, tick c.before)

pub overflow_shr-result : goal.overflow_shr-result
overflow_shr-result c =
    omega (arith, (down c.before).near)

pub returns : goal.returns
returns c =
    rw (c.half_of.ensures, tick c.before) (down c.before).ticks
