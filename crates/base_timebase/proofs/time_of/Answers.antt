use Rattle.std.proofs.Common.{◌∙◌, arith}
use lib.Ieee.{of_bits}
use Rattle.base_timebase.proofs.Ranges.{no_nan, time-outside, time-is, in-range, out_of_range}
use Rattle.base_timebase.proofs.time_of.Goals as goal

pub returns-then-b-gt2139095040 : goal.returns-then-b-gt2139095040
returns-then-b-gt2139095040 c =
    out_of_range _ _ (time-outside c.args.b c.ranges.b.fits (omega (arith, c.if-b-gt2139095040.true)))

pub float_from_bits-x : goal.float_from_bits-x
float_from_bits-x c =
    no_nan c.args.b (omega arith)

pub returns-then-x : goal.returns-then-x
unfolding of_bits
returns-then-x c =
    in-range _ _ (time-is c.args.b (omega arith) ∙ c.if-x.true)

pub returns-else-x : goal.returns-else-x
unfolding of_bits
returns-else-x c =
    out_of_range _ _ (time-is c.args.b (omega arith) ∙ c.if-x.false)
