use Prim.Native.Nat.{◌-◌}
use lib.ListN.{length}
use Rattle.score_bursts.proofs.Walk.{Judging}
use Rattle.score_bursts.proofs.scan.Given as goal

abbrev pub invariant-loop-at : goal.invariant-loop-at
invariant-loop-at l = Judging l.s l.at l.n

abbrev pub decreases-loop-at : goal.decreases-loop-at
decreases-loop-at l = length l.s - l.at
