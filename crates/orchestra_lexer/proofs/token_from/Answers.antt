use Rattle.orchestra_lexer.proofs.Standing.{symbol-stands, number-stands, whole-stands, sign-stands}
use borrow.Author.Rules.{rules}
use Rattle.orchestra_lexer.proofs.token_from.Goals as goal

pub returns-in-240 : goal.returns-in-240
returns-in-240 c =
    search symbol-stands

pub returns-in-241 : goal.returns-in-241
returns-in-241 c =
    search number-stands

pub returns-in-242 : goal.returns-in-242
returns-in-242 c =
    search whole-stands

pub returns-in_default : goal.returns-in_default
returns-in_default c =
    search sign-stands
