use Rattle.orchestra_name_rules.proofs.Seeking.{free-is, full_is}
use borrow.Author.Rules.{rules}
use Rattle.orchestra_name_rules.proofs.free.Goals as goal

pub returns-then-n-most : goal.returns-then-n-most
returns-then-n-most c =
    search free-is
