use Rattle.text_writer.proofs.Passing.{Counted}
use Rattle.text_writer.proofs.measured_lines.Given as goal

abbrev pub invariant-loop-i : goal.invariant-loop-i
invariant-loop-i l = Counted l.area l.n l.total l.i
