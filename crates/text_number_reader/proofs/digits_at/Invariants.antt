use Rattle.text_number_reader.proofs.Readers.{Reading}
use Rattle.text_number_reader.proofs.digits_at.Given as goal

abbrev pub invariant-loop-i : goal.invariant-loop-i
invariant-loop-i l = Reading l.s l.at l.start l.most l.n l.i
