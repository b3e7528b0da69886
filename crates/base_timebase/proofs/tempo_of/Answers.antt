use Rattle.std.proofs.Common.{◌∙◌}
use lib.Ieee.{of_bits}
use Rattle.base_timebase.proofs.Ranges.{no_nan, tempo-outside, tempo-is, tempo-slow, in-range, out_of_range}
use Rattle.base_timebase.proofs.tempo_of.Goals.{else-x-via-then-x+else-x-2, else-x-via-else-x}
use Rattle.base_timebase.proofs.tempo_of.Goals as goal

pub returns-then-b-gt2139095040 : goal.returns-then-b-gt2139095040
returns-then-b-gt2139095040 c =
    out_of_range _ _ (tempo-outside _ c.if-b-gt2139095040.true)

pub float_from_bits-x : goal.float_from_bits-x
float_from_bits-x c =
    no_nan _ c.if-b-gt2139095040.false

pub returns-then-x-2 : goal.returns-then-x-2
unfolding of_bits
returns-then-x-2 c =
    in-range _ _ (tempo-is _ c.if-x.true ∙ c.if-x-2.true)

pub returns-else-x : goal.returns-else-x
unfolding of_bits
returns-else-x c =
    elim c.else-x.branch [
      | else-x-via-then-x+else-x-2 w ↦ out_of_range _ _ (tempo-is _ w.if-x.true ∙ w.if-x-2.false)
      | else-x-via-else-x w ↦ out_of_range _ _ (tempo-slow _ w.if-x.false)
    ]
