use Rattle.text_reader.proofs.LineLoop.{first-none, first-here, first-kept}
use Rattle.text_reader.proofs.first_of.Goals.{else-is_taken-via-then-is_taken+else-not-is_taken, else-is_taken-via-else-is_taken}
use Rattle.text_reader.proofs.first_of.Goals as goal

pub returns-then-not-is_taken : goal.returns-then-not-is_taken
returns-then-not-is_taken c =
    search first-here

pub returns : goal.returns
returns c =
    elim c.else-is_taken.branch [
      | else-is_taken-via-then-is_taken+else-not-is_taken w ↦
          first-none _ _ c.is_taken.ensures w.if-is_taken.true _ w.is_taken-then-is_taken.ensures w.if-not-is_taken.false
      | else-is_taken-via-else-is_taken w ↦ first-kept _ _ c.is_taken.ensures w.if-is_taken.false _
    ]
