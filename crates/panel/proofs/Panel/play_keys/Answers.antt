use borrow.Author.Rules.{rules}
use Rattle.panel.proofs.Entering.{leaves-on}
use Rattle.panel.proofs.Panel.play_keys.Goals as goal

pub returns : goal.returns
returns c =
    leaves-on c.result_on.ensures c.play_keys.ensures
