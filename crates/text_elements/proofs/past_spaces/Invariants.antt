use Rattle.text_elements.proofs.Parts.{Spaces}
use Rattle.text_elements.proofs.past_spaces.Given as goal

abbrev pub invariant-loop-i : goal.invariant-loop-i
invariant-loop-i l = Spaces l.s l.at l.i
