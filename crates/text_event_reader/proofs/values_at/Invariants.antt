use Prim.Native.Nat.{◌-◌}
use lib.ListN.{length}
use Rattle.text_event_reader.proofs.Lists.{Gathering}
use Rattle.text_event_reader.proofs.values_at.Given as goal

abbrev pub invariant-loop-p : goal.invariant-loop-p
invariant-loop-p l = Gathering l.s l.at l.kept l.p

abbrev pub decreases-loop-p : goal.decreases-loop-p
decreases-loop-p l = length l.s - l.p
