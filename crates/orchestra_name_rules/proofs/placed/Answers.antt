use borrow.Author.Rules.{rules}
use Rattle.orchestra_name_rules.proofs.Entering.{p-name, p-store, p-other}
use Rattle.orchestra_name_rules.proofs.placed.Goals as goal

pub returns-in-Name : goal.returns-in-Name
returns-in-Name c =
    search p-name

pub returns-in-Store : goal.returns-in-Store
returns-in-Store c =
    search p-store

pub returns-in_default : goal.returns-in_default
returns-in_default c =
    search p-other
