use Rattle.score_writer.proofs.Area.{Checked}
use Rattle.score_writer.proofs.first_fault.Given as goal

abbrev pub invariant-loop-i : goal.invariant-loop-i
invariant-loop-i l = Checked l.area l.n l.i
