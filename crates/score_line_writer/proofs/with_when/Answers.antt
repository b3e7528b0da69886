use borrow.Author.Rules.{rules}
use Rattle.score_line_writer.proofs.Packs.{when-timed, when-untimed}
use Rattle.score_line_writer.proofs.with_when.Goals as goal

pub returns-in-Timed : goal.returns-in-Timed
returns-in-Timed c =
    search when-timed

pub returns-in-Untimed : goal.returns-in-Untimed
returns-in-Untimed c =
    search when-untimed
