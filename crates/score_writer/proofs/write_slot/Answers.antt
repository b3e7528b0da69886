use borrow.Author.Rules.{rules}
use Rattle.score_writer.proofs.Ends.{slot-unit, slot-refused}
use Rattle.score_writer.proofs.write_slot.Goals as goal

pub returns-then-is_taken : goal.returns-then-is_taken
returns-then-is_taken c =
    search slot-unit

pub returns : goal.returns
returns c =
    search slot-refused
