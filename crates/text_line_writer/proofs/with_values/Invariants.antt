use Rattle.text_line_writer.proofs.Pieces.{Valued}
use Rattle.text_line_writer.proofs.with_values.Given as goal

abbrev pub invariant-loop-i : goal.invariant-loop-i
invariant-loop-i l = Valued l.initial.text l.n l.values l.text l.i
