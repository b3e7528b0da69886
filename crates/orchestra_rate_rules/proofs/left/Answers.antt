use Rattle.orchestra_rate_rules.proofs.Rated.{left_is}
use borrow.Author.Rules.{rules}
use Rattle.orchestra_rate_rules.proofs.left.Goals as goal

pub returns : goal.returns
returns c =
    search left_is
