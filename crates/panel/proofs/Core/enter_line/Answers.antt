use borrow.Author.Rules.{rules}
use Rattle.player_model.specs.Calls.{keypad}
use Rattle.panel.proofs.Entering.{by-entrance}
use Rattle.panel.proofs.Core.enter_line.Goals as goal

pub returns : goal.returns
returns c =
    by-entrance _ keypad _ _ c.keypad.ensures _ c.submit.ensures
