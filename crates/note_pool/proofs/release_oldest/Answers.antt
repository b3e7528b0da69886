use mathlib.Core.Path.{◌≡◌, sym, ◌∙◌}
use Prim.Native.Nat.{◌-◌}
use native.Mathlib.Omega.{arith}
use lib.ListN.{length}
use Rattle.note_pool.proofs.Steps.{unheld-more, marks-one, marks-none}
use Rattle.note_pool.proofs.release_oldest.Goals as goal

pub loop-place-init : goal.loop-place-init
loop-place-init c =
    (omega arith, omega (arith, c.requires), tt)

pub returns-then-is_held : goal.returns-then-is_held
returns-then-is_held c =
    let l : length c.args.v.notes ≡ 16 = omega arith in
    marks-one _ _ c.args.v c.requires l c.loop-place.place _ c.loop-place-test.true c.loop-place.invariant.2 (sym c.is_held.ensures ∙ c.if-is_held.true) _ c.release.ensures

pub loop-place-preserved : goal.loop-place-preserved
loop-place-preserved c =
    let l : length c.args.v.notes ≡ 16 = omega arith in
    (omega arith, c.loop-place.invariant.1, unheld-more _ _ c.args.v.notes c.loop-place.place _ (omega arith) c.loop-place.invariant.2 (sym c.is_held.ensures ∙ c.if-is_held.false))

pub returns : goal.returns
returns c =
    let l : length c.args.v.notes ≡ 16 = omega arith in
    marks-none _ _ c.args.v c.requires l c.loop-place.place c.loop-place-test.false c.loop-place.invariant.2 c.loop-place.invariant.0
