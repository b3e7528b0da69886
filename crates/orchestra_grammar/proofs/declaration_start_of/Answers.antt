use Rattle.orchestra_grammar.proofs.Firsts.{sign-leads}
use borrow.Author.Rules.{rules}
use Rattle.orchestra_grammar.proofs.declaration_start_of.Goals as goal

pub returns-in-2 : goal.returns-in-2
returns-in-2 c =
    search (sign-leads 2)

pub returns-in-3 : goal.returns-in-3
returns-in-3 c =
    search (sign-leads 3)

pub returns-in-4 : goal.returns-in-4
returns-in-4 c =
    search (sign-leads 4)
