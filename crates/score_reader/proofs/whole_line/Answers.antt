use borrow.Author.Rules.{rules}
use Rattle.score_reader.proofs.Readers.{whole-filled, whole-left, whole-refused}
use Rattle.score_reader.proofs.whole_line.Goals as goal

pub returns-then-is_filled : goal.returns-then-is_filled
returns-then-is_filled c =
    search whole-filled

pub returns-then-is_taken : goal.returns-then-is_taken
returns-then-is_taken c =
    search whole-left

pub returns : goal.returns
returns c =
    search whole-refused
