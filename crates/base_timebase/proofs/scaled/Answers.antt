use Rattle.std.proofs.Common.{arith}
use Rattle.base_timebase.proofs.Shift.{shift_is}
use Rattle.base_timebase.proofs.scaled.Goals as goal

pub returns : goal.returns
returns c =
    rw (shift_is _ _ c.requires.1) (omega arith)
