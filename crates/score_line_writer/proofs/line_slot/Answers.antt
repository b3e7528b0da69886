use borrow.Author.Rules.{rules}
use Rattle.score_line_writer.proofs.Writes.{slot_is}
use Rattle.score_line_writer.proofs.line_slot.Goals as goal

pub returns : goal.returns
returns c =
    search slot_is
