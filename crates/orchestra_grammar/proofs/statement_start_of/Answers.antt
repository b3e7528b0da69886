use Rattle.orchestra_grammar.proofs.Firsts.{name-start}
use borrow.Author.Rules.{rules}
use Rattle.orchestra_grammar.proofs.statement_start_of.Goals as goal

pub returns-in-Symbol : goal.returns-in-Symbol
returns-in-Symbol c =
    search name-start
