use Rattle.orchestra_lexer.proofs.Standing.{real-number, real-none}
use borrow.Author.Rules.{rules}
use Rattle.orchestra_lexer.proofs.real_from.Goals as goal

pub returns-then-k : goal.returns-then-k
returns-then-k c =
    search real-number

pub returns : goal.returns
returns c =
    search real-none
