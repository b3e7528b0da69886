use mathlib.Core.Path.{ap, ◌∙◌}
use Rattle.std.specs.Option.{is_some}
use Rattle.player_start.specs.Starting.{has_chosen}
use Rattle.player_start.proofs.has_chosen.Goals as goal

pub returns : goal.returns
unfolding has_chosen
returns c =
    c.is_some.ensures ∙ ap is_some c.find.ensures
