use mathlib.Core.Path.{◌∙◌}
use borrow.Author.Rules.{rules}
use Rattle.panel.specs.Calls.{area_after}
use Rattle.panel.proofs.Entering.{receives}
use Rattle.panel.proofs.Core.receive_burst.Goals as goal

pub returns : goal.returns
unfolding area_after
returns c =
    let e = c.receive_burst-r.ensures in record { panel = c.leaving.ensures ∙ receives _ _ _ _ e.state; area = e.area }
