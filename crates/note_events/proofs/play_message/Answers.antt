use mathlib.Core.Path.{refl, subst}
use Rattle.player_model.specs.Cycle as cycle
use Rattle.voices_compiled.specs.Voices.{VoiceState}
use Rattle.note_pool.specs.Started.{StartedBy}
use Rattle.note_pool.proofs.Steps.{start-room, start-full}
use Rattle.note_lifecycle.proofs.OneNote.{pressed-yields}
use Rattle.note_events.proofs.Rendered.{press-starts, off-marks}
use Rattle.note_events.proofs.play_message.Goals as goal

pub returns-then-v-most : goal.returns-then-v-most
returns-then-v-most c =
    start-room _ _ c.args.v _ _ c.well_formed.1.1.1.0.1.1.0.1.0.1 c.if-v-most.true c.requires.2 c.with_note.ensures
    (press-starts _ _ _ _ _ _ _ c.if-m.true _ c.instrument_or_blank-x.ensures _ c.note_from_key-note.ensures)

pub returns-then-m : goal.returns-then-m
returns-then-m c =
    start-full _ _ c.args.v _ _ c.well_formed.1.1.1.0.1.1.0.1.0.1 c.if-v-most.false c.requires.0 c.with_miss.ensures
    (press-starts _ _ _ _ _ _ _ c.if-m.true _ refl _ refl) (pressed-yields _ _ _ _ _ _)

pub returns : goal.returns
returns c =
    subst (λ (x : cycle.Started VoiceState). StartedBy x c.args.v c.release_oldest.result) (off-marks _ _ _ _ _ _ _ c.if-m.false) c.release_oldest.ensures
