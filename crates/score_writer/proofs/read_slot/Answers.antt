use borrow.Author.Rules.{rules}
use Rattle.score_writer.proofs.Area.{slot_whole, slot-longer, slot-refused}
use Rattle.score_writer.proofs.read_slot.Goals as goal

pub returns-then-zero_from : goal.returns-then-zero_from
returns-then-zero_from c =
    search slot_whole

pub returns-then-is_taken : goal.returns-then-is_taken
returns-then-is_taken c =
    search slot-longer

pub returns : goal.returns
returns c =
    search slot-refused
