use mathlib.Core.Path.{refl}
use Prim.Native.Nat.{◌-◌}
use native.Mathlib.Omega.{arith}
use lib.ListN.{length-set}
use Rattle.note_lifecycle.proofs.Values.{named_step, named_end}
use Rattle.note_lifecycle.proofs.set_import.Goals as goal

pub loop-j-init : goal.loop-j-init
loop-j-init c =
    (omega arith, c.well_formed.0.1.0.1, refl)

pub loop-j-preserved : goal.loop-j-preserved
loop-j-preserved c =
    let at = c.loop-j in (
      omega arith,
      simp length-set at.invariant.1,
      named_step _ _ _ _ c.well_formed.1.0.1.0.1 c.well_formed.0.1.0.1 _ _ _ _ _ c.loop-j-test.true at.invariant.1 at.invariant.2 c.select_value.ensures.0,
    )

pub returns : goal.returns
returns c =
    named_end _ _ _ _ c.well_formed.1.0.1.0.1 c.well_formed.0.1.0.1 _ _ c.loop-j-test.false c.loop-j.invariant.1 c.loop-j.invariant.2
