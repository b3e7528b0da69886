use borrow.Author.Rules.{rules}
use Prim.Native.Nat.{◌-◌}
use Rattle.score_writer.proofs.Lays.{Laying, lay-start, lay-more, lay-end}
use Rattle.score_writer.proofs.write_lines.Goals as goal

pub loop-i-init : goal.loop-i-init
loop-i-init c =
    search lay-start

pub loop-i-preserved : goal.loop-i-preserved
loop-i-preserved c =
    search lay-more

pub shape_of-out : goal.shape_of-out
shape_of-out c =
    c.loop-i.invariant.same

pub returns : goal.returns
returns c =
    search lay-end
