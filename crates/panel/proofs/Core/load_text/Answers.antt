use borrow.Author.Rules.{rules}
use Rattle.player_model.specs.Calls.{text}
use Rattle.panel.proofs.Entering.{by-entrance}
use Rattle.panel.proofs.Core.load_text.Goals as goal

pub returns : goal.returns
returns c =
    by-entrance _ text _ _ c.text.ensures _ c.submit.ensures
