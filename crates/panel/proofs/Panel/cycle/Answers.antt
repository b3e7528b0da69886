use borrow.Author.Rules.{rules}
use Rattle.panel.proofs.Entering.{leaves-on}
use Rattle.panel.proofs.Panel.cycle.Goals as goal

pub returns : goal.returns
returns c =
    let e = c.cycle-r.ensures in record { panel = leaves-on c.result_on.ensures e.panel; block = e.block }
