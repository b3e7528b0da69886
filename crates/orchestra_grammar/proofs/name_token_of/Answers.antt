use Rattle.orchestra_grammar.proofs.Firsts.{name-word}
use borrow.Author.Rules.{rules}
use Rattle.orchestra_grammar.proofs.name_token_of.Goals as goal

pub returns-in-Symbol : goal.returns-in-Symbol
returns-in-Symbol c =
    search name-word
