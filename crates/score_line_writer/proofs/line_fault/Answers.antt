use borrow.Author.Rules.{rules}
use Rattle.score_line_writer.proofs.Writes.{count-within, fault-is}
use Rattle.score_line_writer.proofs.line_fault.Goals as goal

pub first_answer-requires : goal.first_answer-requires
first_answer-requires c =
    search count-within

pub returns : goal.returns
returns c =
    search fault-is
