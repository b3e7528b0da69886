use mathlib.Core.Path.{◌∙◌}
use borrow.Author.Rules.{rules}
use Rattle.panel.proofs.Entering.{presses}
use Rattle.panel.proofs.Core.play_keys.Goals as goal

pub returns : goal.returns
returns c =
    c.leaving.ensures ∙ presses _ _ _ c.play_keys-r.ensures
