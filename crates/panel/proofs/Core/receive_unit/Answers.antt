use borrow.Author.Rules.{rules}
use Rattle.player_model.specs.Calls.{unit}
use Rattle.panel.proofs.Entering.{by-entrance}
use Rattle.panel.proofs.Core.receive_unit.Goals as goal

pub returns : goal.returns
returns c =
    by-entrance _ unit _ _ c.unit.ensures _ c.submit.ensures
