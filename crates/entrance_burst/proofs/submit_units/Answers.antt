use mathlib.Core.Path.{refl}
use Prim.Native.Nat.{◌-◌}
use native.Mathlib.Omega.{arith}
use borrow.Author.Rules.{rules}
use Rattle.code_program.specs.InstrumentTable.{instruments_of}
use Rattle.score_bursts.specs.inside.Reading.{burst_of}
use Rattle.score_bursts.specs.Bursts.{units_in}
use Rattle.entrance_burst.proofs.Sending.{Sending, send-start, send-inside, send-length, send-place, send-next, send-queue, send-area}
use Rattle.entrance_burst.proofs.submit_units.Goals as goal

pub loop-i-init : goal.loop-i-init
loop-i-init c =
    search send-start

pub overflow_add-start : goal.overflow_add-start
overflow_add-start c =
    let l = send-inside _ _ _ _ _ _ _ _ _ _ c.loop-i-test.true c.loop-i.invariant _ refl in search rules

pub overflow_add-end : goal.overflow_add-end
overflow_add-end c =
    let l = send-inside _ _ _ _ _ _ _ _ _ _ c.loop-i-test.true c.loop-i.invariant _ c.length_at.ensures in search rules

pub slice_bounds-submit_unit-end : goal.slice_bounds-submit_unit-end
slice_bounds-submit_unit-end c =
    let l = send-inside _ _ _ _ _ _ _ _ _ _ c.loop-i-test.true c.loop-i.invariant _ c.length_at.ensures in search rules

pub bounds-answers-i : goal.bounds-answers-i
bounds-answers-i c =
    search send-place

pub loop-i-preserved : goal.loop-i-preserved
loop-i-preserved c =
    search send-next

pub shape_of-answers : goal.shape_of-answers
shape_of-answers c =
    send-length _ _ _ _ _ _ _ _ _ _ c.loop-i.invariant

pub returns : goal.returns
returns c =
    search (send-queue, send-area)
