use borrow.Author.Rules.{rules}
use Rattle.panel.proofs.Entering.{starts}
use Rattle.panel.proofs.Panel.fresh.Goals as goal

pub returns : goal.returns
returns c =
    let e = c.fresh_start-s.ensures in record { panel = starts _ _ _ _ _ e.start; area = e.area }
