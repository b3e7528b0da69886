-- What each call but the cycle leaves of the state, for every state and every input; the table stays.
use Rattle.std.specs.Prelude.{Bool, false, cond, List, ℕ, Float, replicate, Some, None, Result, Ok, Err}
use Rattle.std.specs.Float.{binary32}
use Rattle.std.specs.Float.Ieee.{of_bits}
use Rattle.base_answer.specs.declared.Answer.{Answer}
use Rattle.base_answer.specs.declared.Answer.TheVariants.{Taken, Ended}
use Rattle.score_reader.specs.Score.{Score}
use Rattle.score_bursts.specs.Bursts.{Burst}
use Rattle.player_queue.specs.declared.Queue.{Queue}
use Rattle.note_state.specs.Notes.{new_note}
use Rattle.note_state.specs.declared.Note.{Note}
use Rattle.score_line.specs.Reading.{blank_line}
use Rattle.entrance_burst.specs.Singly.{burst_submitted_in}
use Rattle.entrance_admission.specs.Submission.{submitted_in}
use Rattle.midi_messages.specs.inside.Reading.{call_of}
use Rattle.midi_queue.specs.Keyboard.{no_messages, enqueued_in}
use Rattle.midi_queue.specs.declared.MessageQueue.{MessageQueue}
use Rattle.code_program.specs.declared.Instrument.{Instrument}
use Rattle.player_state.specs.declared.State.{State}
use Rattle.base_answer.specs.declared.AnsweredLine.{AnsweredLine}
use Rattle.base_answer.specs.declared.AnsweredUnits.{AnsweredUnits}
use Rattle.base_answer.specs.declared.Answered.{Answered}

-- ---- a fresh start

unfoldable pub empty_note : Note
empty_note =
    new_note (replicate 16 (of_bits binary32 0)) None 0 (Some 0) false None false

-- no line and no note message waits, no note sounds, position 0, this tempo, none missed; ended only where the start is refused
abbrev pub start_state : Float → Bool → State
start_state tempo ended =
    record {
      queue = record { lines = replicate 64 blank_line; count = 0; ran = false; last = 0 };
      messages = no_messages;
      playing = record { notes = record { notes = replicate 16 empty_note; count = 0 }; position = 0; tempo = tempo; missed = 0; ended = ended };
    }

-- ---- the calls

-- with other waiting lines
abbrev pub with_queue : State → Queue → State
with_queue s q = record { queue = q; messages = s.messages; playing = s.playing }

-- with other waiting note messages
abbrev pub with_messages : State → MessageQueue → State
with_messages s m = record { queue = s.queue; messages = m; playing = s.playing }

-- what was read goes in, all of it or none
unfoldable pub submitted_of : List Instrument → State → Bool → Score → AnsweredLine State
submitted_of table s timed score =
    let r = submitted_in s.playing.ended timed table s.queue score in
    record { left = with_queue s r.left; answer = r.answer; line = r.line }

-- a burst's units, as if they came singly
unfoldable pub burst_submitted_of : List Instrument → State → ℕ → Burst → AnsweredUnits State
burst_submitted_of table s places b =
    let r = burst_submitted_in s.playing.ended table s.queue places b in
    record { left = with_queue s r.left; answer = r.answer; units = r.units }

-- what the keys bring in, or why nothing
abbrev pub with_keys : State → Result MessageQueue Answer → Answered State
with_keys s (Ok w) = record { left = with_messages s w; answer = Taken }
with_keys s (Err a) = record { left = s; answer = a }

-- bytes at the keyboard: 9 first, then their note messages wait behind the others, all of them or none
unfoldable pub keyboard_call_of : State → List ℕ → Answered State
keyboard_call_of s bytes = cond s.playing.ended (record { left = s; answer = Ended }) (with_keys s (enqueued_in s.messages (call_of bytes)))
