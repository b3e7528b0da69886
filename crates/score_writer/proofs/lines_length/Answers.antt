use borrow.Author.Rules.{rules}
use Prim.Native.Nat.{◌-◌}
use Rattle.score_writer.proofs.Area.{Summed, sum-start, sum_more, sum-end}
use Rattle.score_writer.proofs.lines_length.Goals as goal

pub loop-i-init : goal.loop-i-init
loop-i-init c =
    search sum-start

pub loop-i-preserved : goal.loop-i-preserved
loop-i-preserved c =
    search sum_more

pub returns : goal.returns
returns c =
    search sum-end
