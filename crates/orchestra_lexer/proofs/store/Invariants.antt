use Rattle.orchestra_lexer.proofs.Storing.{Filled}
use Rattle.orchestra_lexer.proofs.store.Given as goal

abbrev pub invariant-loop-n : goal.invariant-loop-n
invariant-loop-n l = Filled l.bytes l.count l.tokens l.at l.n
