use Rattle.orchestra_name_rules.proofs.Seeking.{known_is}
use borrow.Author.Rules.{rules}
use Rattle.orchestra_name_rules.proofs.known.Goals as goal

pub returns : goal.returns
returns c =
    search known_is
