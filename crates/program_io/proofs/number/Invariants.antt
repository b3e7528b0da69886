use Rattle.program_io.proofs.Reading.{Digits}
use Rattle.program_io.proofs.number.Given as goal

abbrev pub invariant-loop-b : goal.invariant-loop-b
invariant-loop-b l = Digits l.text l.n l.b-index
