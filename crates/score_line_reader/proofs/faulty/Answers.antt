use borrow.Author.Rules.{rules}
use mathlib.Core.Path.{sym}
use Rattle.score_line_reader.proofs.faulty.Goals as goal

pub returns : goal.returns
returns c =
    rw (sym c.answer_of.ensures) c.refused.ensures
