use Rattle.text_number_writer.proofs.ShortestText.{Looked}
use Rattle.text_number_writer.proofs.shortest.Given as goal

abbrev pub invariant-loop-d : goal.invariant-loop-d
invariant-loop-d l = Looked l.x l.d
