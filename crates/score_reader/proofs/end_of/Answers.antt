use borrow.Author.Rules.{rules}
use Rattle.score_reader.proofs.Readers.{end-filled, end-left}
use Rattle.score_reader.proofs.end_of.Goals as goal

pub returns-then-is_filled : goal.returns-then-is_filled
returns-then-is_filled c =
    search end-filled

pub returns : goal.returns
returns c =
    search end-left
