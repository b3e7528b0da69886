use Rattle.orchestra_lexer.proofs.Standing.{four_is}
use borrow.Author.Rules.{rules}
use Rattle.orchestra_lexer.proofs.four_at.Goals as goal

pub returns : goal.returns
returns c =
    search four_is
