use mathlib.Core.Path.{◌≡◌, sym, ◌∙◌}
use Prim.Native.Nat.{◌≤◌, ◌-◌}
use native.Mathlib.Omega.{arith}
use borrow.Author.Tests.{not-true, not-false}
use lib.ListN.{length, length-map}
use Rattle.code_program.specs.InstrumentTable.{instruments_of}
use Rattle.entrance_admission.proofs.Pushing.{Pushing, pushing-none, pushing-next, pushing-off, pushing-end, all-pushed}
use Rattle.entrance_admission.proofs.admit_lines.Goals as goal

pub loop-i-init : goal.loop-i-init
loop-i-init c =
    let l : length c.args.h.lines ≡ 65 = c.well_formed.1.1.0.1.1.0.1.0.1 in
    (omega (arith, c.min-m.ensures), pushing-none _ _ _ _ _ (omega (arith, l, c.min-m.ensures)))

pub returns-then-not-is_taken : goal.returns-then-not-is_taken
returns-then-not-is_taken c =
    let at = c.loop-i in
    let l : length c.args.h.lines ≡ 65 = c.well_formed.1.1.0.1.1.0.1.0.1 in
    all-pushed _ _ _ c.args.h.lines c.args.h.count _ c.min-m.ensures l _
    (pushing-off _ _ _ c.args.h.lines _ _ _ (omega arith) at.invariant.1 _ _ c.admit_line-a.ensures (sym c.is_taken.ensures ∙ c.if-not-is_taken.true))

pub loop-i-preserved : goal.loop-i-preserved
loop-i-preserved c =
    let at = c.loop-i in
    (at.invariant.0, pushing-next _ _ _ c.args.h.lines _ _ _ (omega arith) at.invariant.1 _ _ c.admit_line-a.ensures (sym c.is_taken.ensures ∙ c.if-not-is_taken.false))

pub returns : goal.returns
returns c =
    let l : length c.args.h.lines ≡ 65 = c.well_formed.1.1.0.1.1.0.1.0.1 in
    all-pushed _ _ _ c.args.h.lines c.args.h.count _ c.min-m.ensures l _
    (pushing-end _ _ _ c.args.h.lines _ _ _ c.loop-i-test.false c.loop-i.invariant.1)
