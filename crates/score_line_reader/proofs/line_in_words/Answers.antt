use mathlib.Core.Path.{ap, ◌∙◌}
use Rattle.score_line.specs.Reading.{line_in_words, line_read}
use Rattle.score_line_reader.proofs.line_in_words.Goals as goal

pub returns : goal.returns
unfolding line_in_words
returns c =
    c.told.ensures ∙ ap line_read c.line_from.ensures
