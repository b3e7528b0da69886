use borrow.Author.Rules.{rules}
use Rattle.score_reader.proofs.Readers.{first_counted, first_short}
use Rattle.score_reader.proofs.first.Goals as goal

pub returns-in-Some : goal.returns-in-Some
returns-in-Some c =
    search first_counted

pub returns-in-None : goal.returns-in-None
returns-in-None c =
    search first_short
