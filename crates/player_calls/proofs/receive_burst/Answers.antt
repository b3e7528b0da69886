use mathlib.Core.Path.{◌∙◌}
use borrow.Author.Rules.{rules}
use Rattle.player_calls.proofs.Calling.{sends}
use Rattle.player_calls.proofs.receive_burst.Goals as goal

pub returns : goal.returns
returns c =
    let e = c.submit_burst-sent.ensures in record { state = c.leaving.ensures ∙ sends _ _ _ _ _ e.sent; area = e.area }
