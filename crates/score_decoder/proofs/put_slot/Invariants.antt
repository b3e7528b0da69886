use borrow.Author.Rules.{rules}
use Prim.Native.Nat.{◌-◌}
use Rattle.score_decoder.proofs.Slots.{Putting, put-start, put-more, put-end}
use Rattle.score_line.specs.LineFormat.{slot_words}
use Rattle.score_decoder.proofs.put_slot.Given as goal

abbrev pub invariant-loop-i : goal.invariant-loop-i
invariant-loop-i l = Putting l.initial.area l.at l.slot l.area l.i
