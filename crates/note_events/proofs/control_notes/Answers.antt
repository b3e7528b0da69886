use mathlib.Core.Path.{◌≡◌, refl, ap, ◌∙◌}
use mathlib.Core.List.{List}
use Prim.Native.Nat.{◌-◌}
use native.Mathlib.Omega.{arith}
use lib.ListN.{length}
use Rattle.code_program.specs.InstrumentTable.{instruments_of}
use Rattle.player_model.specs.Lists.{each, over}
use Rattle.player_model.proofs.Loops.{take-end}
use Rattle.note_state.specs.declared.Note.{Note}
use Rattle.note_events.specs.Controls.{controlled_in}
use Rattle.note_pool.proofs.Steps.{each_over}
use Rattle.note_events.proofs.Rendered.{control-in}
use Rattle.note_events.proofs.control_notes.Goals as goal

pub loop-j-init : goal.loop-j-init
unfolding each
loop-j-init c =
    (omega (arith, c.min-m.ensures), omega (arith, c.min-m.ensures), refl)

pub loop-j-preserved : goal.loop-j-preserved
loop-j-preserved c =
    let at = c.loop-j in
    let l : length c.args.v.notes ≡ 16 = c.well_formed.1.0.1.1.0.1.0.1 in (
      omega arith,
      at.invariant.1,
      each_over _ c.args.v.notes _ _ _ _ (omega arith) at.invariant.2 (control-in _ _ _ _ _ _ _ c.instrument_or_blank-i.ensures c.controlled_note-y.ensures),
    )

pub returns : goal.returns
returns c =
    let l : length c.args.v.notes ≡ 16 = c.well_formed.1.0.1.1.0.1.0.1 in
    let g = controlled_in (instruments_of c.args.instruments) c.args.label c.args.variable c.args.value in (
      refl,
      c.loop-j.invariant.2
          ∙ ap (λ (ns : List Note). over (each g ns) c.args.v.notes)
          (take-end c.args.v.notes c.args.v.count 16 _ l _ c.min-m.ensures c.loop-j.invariant.0 c.loop-j-test.false),
    )
