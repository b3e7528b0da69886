use borrow.Author.Rules.{rules}
use Prim.Native.Nat.{◌-◌}
use Rattle.score_decoder.proofs.Slots.{Putting, put-start, put-more, put-end}
use Rattle.score_line.specs.LineFormat.{slot_words}
use Rattle.score_decoder.proofs.put_slot.Goals as goal

pub loop-i-init : goal.loop-i-init
loop-i-init c =
    search put-start

pub loop-i-preserved : goal.loop-i-preserved
loop-i-preserved c =
    search (put-more, rules)

pub returns : goal.returns
returns c =
    search (put-end, rules)
