use mathlib.Core.Path.{ap, sym, ◌∙◌}
use mathlib.Core.List.{List}
use Prim.Native.Nat.{◌<◌, ◌-◌}
use native.Mathlib.Omega.{arith}
use lib.ListN.{length}
use Rattle.player_model.specs.Lists.{filter, over}
use Rattle.player_model.proofs.Loops.{packed_none, packed-yes, packed-no, take-end}
use Rattle.note_state.specs.declared.Note.{Note}
use Rattle.note_lifecycle.specs.OneNote.{goes_on_in}
use Rattle.note_pool.proofs.remaining.Goals as goal
use Rattle.note_pool.proofs.remaining.Goals.{then-goes_on, else-goes_on}

pub loop-i-init : goal.loop-i-init
loop-i-init c =
    (omega (arith, c.min-m.ensures), omega (arith, c.min-m.ensures), packed_none _ _)

pub loop-i-preserved : goal.loop-i-preserved
loop-i-preserved c =
    let at = c.loop-i in
    let h : at.i < length c.args.notes = omega (arith, c.well_formed.0.1.0.1) in
    let p = at.invariant.2 in
    elim c.if-goes_on.branch [
      | then-goes_on w ↦ (omega arith, at.invariant.1, rw (w.a-is, w.k-is) (packed-yes _ c.args.notes _ _ _ _ h (sym c.goes_on.ensures ∙ w.if-goes_on.true) p))
      | else-goes_on w ↦ (omega arith, at.invariant.1, rw (w.a-is, w.k-is) (packed-no _ c.args.notes _ _ _ _ h (sym c.goes_on.ensures ∙ w.if-goes_on.false) p))
    ]

pub returns : goal.returns
returns c =
    let e = take-end c.args.notes c.args.count 16 _ c.well_formed.0.1.0.1 _ c.min-m.ensures c.loop-i.invariant.0 c.loop-i-test.false in (
      c.loop-i.invariant.2.count ∙ ap (λ (l : List Note). length (filter (goes_on_in c.args.position) l)) e,
      c.loop-i.invariant.2.held ∙ ap (λ (l : List Note). over (filter (goes_on_in c.args.position) l) c.args.notes) e,
      omega arith,
    )
