use borrow.Author.Rules.{rules}
use Rattle.player_model.specs.Calls.{stick}
use Rattle.panel.proofs.Entering.{by-entrance}
use Rattle.panel.proofs.Core.load_score.Goals as goal

pub returns : goal.returns
returns c =
    by-entrance _ stick _ _ c.stick.ensures _ c.submit.ensures
