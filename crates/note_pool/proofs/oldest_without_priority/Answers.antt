use mathlib.Core.Path.{◌≡◌, ap, ◌∙◌}
use Prim.Native.Nat.{◌-◌}
use native.Mathlib.Omega.{arith}
use lib.ListN.{length, take}
use lib.Seq.{length-take-le, get_or-take}
use borrow.Author.Tests.{not-true, not-false}
use Rattle.note_state.specs.declared.Note.{Note}
use Rattle.note_pool.proofs.Cutting.{past-none, past_one, past-here, past_all}
use Rattle.note_pool.proofs.oldest_without_priority.Goals as goal

pub loop-oldest-init : goal.loop-oldest-init
loop-oldest-init c =
    (omega arith, omega (arith, c.requires), past-none _)

pub returns-then-not-x : goal.returns-then-not-x
returns-then-not-x c =
    let l : length c.args.v.notes ≡ 16 = omega arith in
    let k = length-take-le c.args.v.count c.args.v.notes (omega (arith, c.requires)) in
    let t = c.loop-oldest-test.true in
    past-here (take c.args.v.count c.args.v.notes) c.loop-oldest.oldest _ (omega (arith, k, t))
    (ap (λ (n : Note). n.priority) (get_or-take c.args.v.count c.args.v.notes c.loop-oldest.oldest _ t) ∙ not-true _ c.if-not-x.true) c.loop-oldest.invariant.2

pub loop-oldest-preserved : goal.loop-oldest-preserved
loop-oldest-preserved c =
    let l : length c.args.v.notes ≡ 16 = omega arith in
    let k = length-take-le c.args.v.count c.args.v.notes (omega (arith, c.requires)) in
    let t = c.loop-oldest-test.true in (
      omega arith,
      c.loop-oldest.invariant.1,
      past_one (take c.args.v.count c.args.v.notes) c.loop-oldest.oldest _ (omega (arith, k, t))
          (ap (λ (n : Note). n.priority) (get_or-take c.args.v.count c.args.v.notes c.loop-oldest.oldest _ t) ∙ not-false _ c.if-not-x.false) c.loop-oldest.invariant.2,
    )

pub returns : goal.returns
returns c =
    let l : length c.args.v.notes ≡ 16 = omega arith in
    let k = length-take-le c.args.v.count c.args.v.notes (omega (arith, c.requires)) in
    let i : c.loop-oldest.oldest ≡ c.args.v.count = omega (arith, c.loop-oldest.invariant.0, c.loop-oldest-test.false) in
    let e = past_all (take c.args.v.count c.args.v.notes) c.loop-oldest.oldest (omega (arith, k, i)) c.loop-oldest.invariant.2 in
    omega (arith, i, e)
