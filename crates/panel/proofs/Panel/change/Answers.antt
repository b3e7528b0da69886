use borrow.Author.Rules.{rules}
use Rattle.panel.proofs.Entering.{leaves-on}
use Rattle.panel.proofs.Panel.change.Goals as goal

pub returns : goal.returns
returns c =
    let e = c.change.ensures in record { panel = leaves-on c.result_on.ensures e.panel; area = e.area }
