use mathlib.Core.Path.{ap, ◌∙◌}
use Rattle.score_line.specs.Reading.{line_at, line_read}
use Rattle.score_line_reader.proofs.line_at.Goals as goal

pub returns : goal.returns
unfolding line_at
returns c =
    c.told.ensures ∙ ap line_read c.line_from.ensures
