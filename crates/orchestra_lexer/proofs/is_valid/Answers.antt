use Rattle.orchestra_lexer.proofs.Standing.{valid-symbol, valid-number, valid-whole, valid-none, valid-sign}
use borrow.Author.Rules.{rules}
use Rattle.orchestra_lexer.proofs.is_valid.Goals as goal

pub returns-in-240 : goal.returns-in-240
returns-in-240 c =
    search valid-symbol

pub returns-in-241 : goal.returns-in-241
returns-in-241 c =
    search valid-number

pub returns-in-242 : goal.returns-in-242
returns-in-242 c =
    search valid-whole

pub returns-then-k-ne0 : goal.returns-then-k-ne0
returns-then-k-ne0 c =
    search valid-sign

pub returns-else-k-ne0 : goal.returns-else-k-ne0
returns-else-k-ne0 c =
    search valid-none
