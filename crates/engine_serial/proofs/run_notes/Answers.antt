use Rattle.code_program.specs.InstrumentTable.{instruments_of}
use Rattle.player_model.specs.Lists.{each}
use Rattle.player_model.specs.Cycle.{Rendered, run_from}
use Rattle.voices_compiled.specs.Voices.{VoiceState}
use Rattle.note_lifecycle.specs.OneNote.{note_of}
use mathlib.Core.Path.{◌≡◌, ap, ◌∙◌}
use mathlib.Core.List.{List}
use Prim.Native.Nat.{◌-◌}
use native.Mathlib.Omega.{arith}
use Rattle.player_model.proofs.Loops.{take-end}
use Rattle.note_state.specs.declared.Note.{Note}
use Rattle.voices_compiled.specs.Voices.{voices}
use Rattle.note_pool.specs.Notes.{notes_in}
use Rattle.code_interpreter.specs.WorkingArea.{numbers_in}
use Rattle.note_lifecycle.proofs.OneNote.{ran-here, mixed-here}
use Rattle.note_pool.proofs.Steps.{laid-notes}
use Rattle.engine_serial.proofs.Running.{running_none, running-step}
use Rattle.engine_serial.proofs.run_notes.Goals as goal

pub loop-j-init : goal.loop-j-init
loop-j-init c =
    let w = c.min-m.ensures in
    (omega (arith, w), omega (arith, w), running_none _ _ _ _ _ c.well_formed.1.1.1.0.1.0.1, ap numbers_in c.working_area-room.ensures)

pub loop-j-preserved : goal.loop-j-preserved
loop-j-preserved c =
    let at = c.loop-j in
    let ran = c.run_note-y.ensures in
    let e = at.invariant.3 in (
      omega arith,
      at.invariant.1,
      running-step _ _ _ _ _ _ _ _ _ c.well_formed.1.1.1.0.1.0.1 (omega arith) _ c.instrument_or_blank-i.ensures _ (ran.note ∙ ran-here _ _ _ _ _ _ e) _ (ran.mix ∙ mixed-here _ _ _ _ _ _ e) at.invariant.2,
      ran.same ∙ e,
    )

pub shape_of-mix : goal.shape_of-mix
shape_of-mix c =
    c.loop-j.invariant.2.samples

pub returns : goal.returns
returns c =
    let r = c.loop-j.invariant.2 in
    let w = c.min-m.ensures in
    let i = c.loop-j.invariant.0 in
    let v = voices (instruments_of c.args.instruments) c.args.code.now c.args.vals.now in
    let e : run_from v (notes_in c.args.notes c.loop-j.j) c.args.mix.now ≡ run_from v (notes_in c.args.notes c.args.count) c.args.mix.now =
    ap (λ (l : List Note). run_from v (each note_of l) c.args.mix.now) (take-end c.args.notes c.args.count 16 _ c.well_formed.1.1.1.0.1.0.1 _ w i c.loop-j-test.false) in record { notes = (laid-notes c.loop-j.a c.args.notes c.loop-j.j _ (omega (arith, r.long, w, i)) (ap (λ (b : Rendered VoiceState). b.notes) (r.are ∙ e)) r.behind).1; mix = ap (λ (b : Rendered VoiceState). b.mix) (r.are ∙ e) }
