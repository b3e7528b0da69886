use mathlib.Core.Path.{refl, ap, ◌∙◌}
use mathlib.Core.List.{List}
use Prim.Native.Nat.{◌<◌, ◌-◌}
use native.Mathlib.Omega.{arith}
use lib.ListN.{length, length-set}
use Rattle.player_model.specs.Lists.{over}
use Rattle.player_model.proofs.Loops.{laid-step, take-end}
use Rattle.note_state.specs.declared.Note.{Note}
use Rattle.note_pool.proofs.copied_over.Goals as goal

pub loop-i-init : goal.loop-i-init
loop-i-init c =
    (omega (arith, c.min-m.ensures), omega (arith, c.min-m.ensures), c.well_formed.1.1.0.1.0.1, refl)

pub loop-i-preserved : goal.loop-i-preserved
loop-i-preserved c =
    let at = c.loop-i in
    let h : at.i < length c.args.new = omega (arith, c.well_formed.0.1.0.1) in
    let k : at.i < length c.args.old = omega (arith, c.well_formed.1.1.0.1.0.1) in
    (omega arith, at.invariant.1, simp length-set at.invariant.2, laid-step _ _ _ _ _ h k at.invariant.3)

pub returns : goal.returns
returns c =
    c.loop-i.invariant.3
    ∙ ap (λ (l : List Note). over l c.args.old) (take-end c.args.new c.args.count 16 _ c.well_formed.0.1.0.1 _ c.min-m.ensures c.loop-i.invariant.0 c.loop-i-test.false)
