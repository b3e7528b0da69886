use native.Mathlib.Omega.{arith}
use Rattle.settings_records.proofs.Walk.{lay-start, lay-length, lay-next, lay-end}
use Rattle.settings_records.proofs.lay.Goals as goal

pub loop-i-init : goal.loop-i-init
loop-i-init c =
    search lay-start

pub overflow_add-area : goal.overflow_add-area
overflow_add-area c =
    omega (arith, lay-length c.loop-i.invariant)

pub bounds-area-at : goal.bounds-area-at
bounds-area-at c =
    omega (arith, lay-length c.loop-i.invariant)

pub loop-i-preserved : goal.loop-i-preserved
loop-i-preserved c =
    search lay-next

pub shape_of-area : goal.shape_of-area
shape_of-area c =
    search lay-length

pub returns : goal.returns
returns c =
    search lay-end
