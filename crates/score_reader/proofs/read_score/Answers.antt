use borrow.Author.Rules.{rules}
use Rattle.score_reader.proofs.Readers.{score-counted, score-short}
use Rattle.score_reader.proofs.read_score.Goals as goal

pub returns-in-Some : goal.returns-in-Some
returns-in-Some c =
    search score-counted

pub returns-in-None : goal.returns-in-None
returns-in-None c =
    search score-short
