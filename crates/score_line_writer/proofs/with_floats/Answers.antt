use borrow.Author.Rules.{rules}
use Prim.Native.Nat.{◌-◌}
use Rattle.score_line_writer.proofs.Packs.{Collected, floats-start, floats-room, floats-again, floats-end}
use Rattle.score_line_writer.proofs.with_floats.Goals as goal

pub loop-i-init : goal.loop-i-init
loop-i-init c =
    search floats-start

pub with_field-r-requires : goal.with_field-r-requires
with_field-r-requires c =
    search (floats-room, rules)

pub loop-i-preserved : goal.loop-i-preserved
loop-i-preserved c =
    search (floats-again, rules)

pub returns : goal.returns
returns c =
    search (floats-end, rules)
