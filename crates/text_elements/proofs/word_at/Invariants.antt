use Rattle.text_elements.proofs.Parts.{Matching}
use Rattle.text_elements.proofs.word_at.Given as goal

abbrev pub invariant-loop-b : goal.invariant-loop-b
invariant-loop-b l = Matching l.s l.at l.word l.p l.b-index
