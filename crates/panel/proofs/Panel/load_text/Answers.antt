use borrow.Author.Rules.{rules}
use Rattle.panel.proofs.Entering.{enters_on}
use Rattle.panel.proofs.Panel.load_text.Goals as goal

pub returns : goal.returns
returns c =
    enters_on c.entrance_on.ensures c.load_text.ensures
