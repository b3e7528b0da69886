use borrow.Author.Rules.{rules}
use Rattle.score_writer.proofs.Area.{line-short}
use Rattle.score_writer.proofs.line_length.Goals as goal

pub returns : goal.returns
returns c =
    search (line-short, rules)
