use Rattle.orchestra_tokens.proofs.Counting.{next-is}
use borrow.Author.Rules.{rules}
use Rattle.orchestra_tokens.proofs.next.Goals as goal

pub returns : goal.returns
returns c =
    search next-is
