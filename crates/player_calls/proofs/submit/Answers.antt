use mathlib.Core.Path.{◌∙◌}
use borrow.Author.Rules.{rules}
use Rattle.player_calls.proofs.Calling.{brings}
use Rattle.player_calls.proofs.submit.Goals as goal

pub returns : goal.returns
returns c =
    c.leaving.ensures ∙ brings _ _ _ _ _ c.submit-brought.ensures
