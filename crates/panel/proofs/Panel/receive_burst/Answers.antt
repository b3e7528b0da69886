use mathlib.Core.Path.{◌∙◌}
use borrow.Author.Rules.{rules}
use Rattle.panel.proofs.Entering.{receives-on}
use Rattle.panel.proofs.Panel.receive_burst.Goals as goal

pub returns : goal.returns
returns c =
    let e = c.receive_burst-r.ensures in record { panel = c.leaving.ensures ∙ receives-on e.panel; area = e.area }
