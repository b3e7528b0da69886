use mathlib.Core.Path.{◌∙◌}
use borrow.Author.Rules.{rules}
use Rattle.panel.proofs.Entering.{brings-in}
use Rattle.panel.proofs.submit.Goals as goal

pub returns : goal.returns
returns c =
    c.leaving.ensures ∙ brings-in _ _ _ _ c.submit-r.ensures
