-- One note of the panel as the note of a cycle, and what the code does with it, its instrument at hand.
use Rattle.std.specs.Prelude.{Bool, true, false, cond, ◌&&◌, List, [], ◌∷◌, ℕ, ◌+◌, take, eqb, Float, Option, Some, None}
use Rattle.std.specs.Option.{option_map_or}
use Rattle.std.specs.Float.Ieee.{eq}
use Rattle.base_timebase.specs.Time.{ticks_in, endless as without_end}
use Rattle.score_line.specs.declared.Label.{Label}
use Rattle.score_line.specs.declared.Line.{Line}
use Rattle.code_interpreter.specs.Passes.{stretch, fresh_of, once, played}
use Rattle.code_interpreter.specs.WorkingArea.{numbers_in, area_played}
use Rattle.note_state.specs.Notes.{new_note, with_values}
use Rattle.note_state.specs.declared.Note.{Note}
use Rattle.midi_keys.specs.Keys.{frequency_of, normalized_velocity}
use Rattle.midi_messages.specs.declared.NoteMessage.{NoteMessage}
use Rattle.player_model.specs.Cycle.{label_number, is_held, goes_on}
use Rattle.player_model.specs.Cycle as cycle
use Rattle.code_program.specs.declared.Instrument.{Instrument}
use Rattle.voices_compiled.specs.Voices.{VoiceState, named}

abbrev pub note_of : Note → cycle.Note VoiceState
note_of n =
    record {
      label = n.label;
      end = n.end;
      priority = n.priority;
      key = n.key;
      released = n.released;
      state = record { instrument = n.instrument; values = n.values };
    }

abbrev pub struct_of : cycle.Note VoiceState → Note
struct_of n = new_note n.state.values n.label n.state.instrument n.end n.priority n.key n.released

-- a line's label, as its note has it
abbrev pub label_of : Label → Option ℕ
label_of label = label_number label

-- where a note ends that starts at a position, if it does
abbrev pub end_after : ℕ → Float → Option ℕ
end_after position duration = cond (eq duration without_end) None (Some (position + ticks_in duration))

-- the note that a line starts, its i pass run
unfoldable pub born_note : List ℕ → List Float → Instrument → Line → ℕ → Label → ℕ → Float → Note
born_note code vals x l position label name duration =
    new_note (once vals (stretch x.istart x.iend code) (fresh_of (take x.fields (take l.count l.values)))) (label_of label) name
    (end_after position duration) l.priority None false

-- the note that a note-on starts
unfoldable pub note_from_key : List ℕ → List Float → Instrument → ℕ → NoteMessage → Note
note_from_key code vals x name m =
    new_note (once vals (stretch x.istart x.iend code) (fresh_of (take x.fields (frequency_of m.key ∷ normalized_velocity m.velocity ∷ []))))
    None name None false (Some (m.channel, m.key)) false

unfoldable pub controlled_note : Instrument → Note → ℕ → ℕ → Float → Note
controlled_note x n label variable value =
    cond (option_map_or (eqb label) n.label false) (with_values (named variable value x.imports n.values) n) n

unfoldable pub k_note : List ℕ → List Float → Instrument → Note → Note
k_note code vals x n = with_values (once vals (stretch x.kstart x.kend code) n.values) n

unfoldable pub ran_note : List ℕ → List Float → Instrument → Note → List Float → Note
unfolding k_note
ran_note code vals x n mix =
    with_values (played vals (stretch x.astart x.aend code) (k_note code vals x n).values mix).values (k_note code vals x n)

unfoldable pub ran_mix : List ℕ → List Float → Instrument → Note → List Float → List Float
unfolding k_note
ran_mix code vals x n mix = (played vals (stretch x.astart x.aend code) (k_note code vals x n).values mix).mix

-- and the room that it leaves
unfoldable pub ran_area : List ℕ → List Float → Instrument → Note → List Float → List Float
unfolding k_note
ran_area code room x n mix = area_played room (stretch x.astart x.aend code) (k_note code (numbers_in room) x n).values mix

-- an unmarked note of a key of a channel
abbrev pub is_held_in : ℕ → ℕ → Note → Bool
is_held_in channel key n = is_held channel key (note_of n)

-- a note that goes on
abbrev pub goes_on_in : ℕ → Note → Bool
goes_on_in position n = goes_on position (note_of n)
