use Rattle.std.proofs.Common.{arith}
use Rattle.base_timebase.proofs.Ranges.{no_nan, finite-in, finite-out, in-range, out_of_range}
use Rattle.base_timebase.proofs.value_of.Goals as goal

pub float_from_bits-result : goal.float_from_bits-result
float_from_bits-result c =
    no_nan c.args.b (omega arith)

pub returns-then-b-lt2139095040 : goal.returns-then-b-lt2139095040
returns-then-b-lt2139095040 c =
    in-range _ _ (finite-in c.args.b (omega arith))

pub returns-else-b-lt2139095040 : goal.returns-else-b-lt2139095040
returns-else-b-lt2139095040 c =
    out_of_range _ _ (finite-out c.args.b (omega arith))
