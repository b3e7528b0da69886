use borrow.Author.Rules.{rules}
use Rattle.score_reader.proofs.Readers.{next-step}
use Rattle.score_reader.proofs.next.Goals as goal

pub returns : goal.returns
returns c =
    search next-step
