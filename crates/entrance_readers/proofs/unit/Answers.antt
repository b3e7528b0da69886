use mathlib.Core.Path.{ap, ◌∙◌}
use mathlib.Core.Bool.{false}
use borrow.Author.Rules.{rules}
use Rattle.score_line.specs.declared.LineRead.{LineRead}
use Rattle.player_model.specs.Calls.{single}
use Rattle.entrance_readers.specs.Entrances.{entrance_read_of}
use Rattle.entrance_readers.proofs.unit.Goals as goal

pub returns : goal.returns
returns c =
    c.single_line.ensures ∙ ap (λ (r : LineRead). entrance_read_of false (single r)) c.read_unit.ensures
