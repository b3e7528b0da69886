use Rattle.program_io.proofs.Reading.{Wording}
use Rattle.program_io.proofs.words_of.Given as goal

abbrev pub invariant-loop-i : goal.invariant-loop-i
invariant-loop-i l = Wording l.s l.initial.words l.words l.i
