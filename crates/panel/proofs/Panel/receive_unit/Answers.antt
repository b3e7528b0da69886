use borrow.Author.Rules.{rules}
use Rattle.panel.proofs.Entering.{enters_on}
use Rattle.panel.proofs.Panel.receive_unit.Goals as goal

pub returns : goal.returns
returns c =
    enters_on c.entrance_on.ensures c.receive_unit.ensures
