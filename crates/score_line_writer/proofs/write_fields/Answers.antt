use borrow.Author.Rules.{rules}
use Prim.Native.Nat.{◌-◌}
use Rattle.score_line_writer.proofs.Writes.{Loop, loop-start, loop-more, loop-fits, loop-end}
use Rattle.score_line_writer.proofs.write_fields.Goals as goal

pub loop-i-init : goal.loop-i-init
loop-i-init c =
    search loop-start

pub overflow_add-p : goal.overflow_add-p
overflow_add-p c =
    search (loop-fits, rules)

pub loop-i-preserved : goal.loop-i-preserved
loop-i-preserved c =
    search (loop-more, rules)

pub shape_of-out : goal.shape_of-out
shape_of-out c =
    c.loop-i.invariant.same

pub returns : goal.returns
returns c =
    search loop-end
