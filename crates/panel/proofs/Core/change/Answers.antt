use mathlib.Core.Path.{◌∙◌}
use borrow.Author.Rules.{rules}
use Rattle.panel.proofs.Entering.{changes}
use Rattle.panel.proofs.Core.change.Goals as goal

pub returns : goal.returns
returns c =
    let e = c.change_unless_ended-r.ensures in record { panel = c.leaving.ensures ∙ changes _ _ _ _ e.settings; area = e.area }
