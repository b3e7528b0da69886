use borrow.Author.Rules.{rules}
use Rattle.score_writer.proofs.Ends.{score-bits}
use Rattle.score_writer.proofs.put_score.Goals as goal

pub returns : goal.returns
returns c =
    search score-bits
