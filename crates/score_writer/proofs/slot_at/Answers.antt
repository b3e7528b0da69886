use borrow.Author.Rules.{rules}
use Rattle.score_writer.proofs.Area.{slot-in, slot-out}
use Rattle.score_writer.proofs.slot_at.Goals as goal

pub returns-then-i-area : goal.returns-then-i-area
returns-then-i-area c =
    search slot-in

pub returns : goal.returns
returns c =
    search slot-out
