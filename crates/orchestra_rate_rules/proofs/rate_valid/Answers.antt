use Rattle.orchestra_rate_rules.proofs.Rated.{l-store, l-other}
use borrow.Author.Rules.{rules}
use Rattle.orchestra_rate_rules.proofs.rate_valid.Goals as goal

pub returns-in-Store : goal.returns-in-Store
returns-in-Store c =
    search l-store

pub returns-in_default : goal.returns-in_default
returns-in_default c =
    search l-other
