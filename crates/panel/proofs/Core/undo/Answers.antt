use mathlib.Core.Path.{◌∙◌}
use borrow.Author.Rules.{rules}
use Rattle.panel.proofs.Entering.{undoes}
use Rattle.panel.proofs.Core.undo.Goals as goal

pub returns : goal.returns
returns c =
    c.leaving.ensures ∙ undoes _ _ _ c.undo_unless_ended-r.ensures
