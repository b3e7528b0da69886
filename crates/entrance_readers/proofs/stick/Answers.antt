use mathlib.Core.Path.{sym, ◌∙◌}
use borrow.Author.Rules.{rules}
use Rattle.entrance_readers.proofs.Gathering.{score-told, heard-taken, heard-refused}
use Rattle.entrance_readers.proofs.stick.Goals as goal

pub score_lines-requires : goal.score_lines-requires
score_lines-requires c =
    heard-taken _ (score-told _) _ c.read_score-read.ensures (sym c.is_taken.ensures ∙ c.if-is_taken.true)

pub returns : goal.returns
returns c =
    heard-refused _ (score-told _) _ c.read_score-read.ensures (sym c.is_taken.ensures ∙ c.if-is_taken.false) _ c.refused_score.ensures
