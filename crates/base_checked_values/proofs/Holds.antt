-- The checked values hold, by computing. Assumes nothing.
use mathlib.Core.Path.{refl}
use lib.Ieee.{of_bits, mul, le}
use Rattle.base_timebase.specs.Time.{ticks_in, cycle_in}
use Rattle.base_float32.specs.Limit.{held, sample_of}
use Rattle.base_checked_values.specs.Values.{answer_to, EveryRowHolds}

pub every-row-holds : EveryRowHolds
unfolding answer_to ticks_in cycle_in sample_of held of_bits mul le
every-row-holds = refl
