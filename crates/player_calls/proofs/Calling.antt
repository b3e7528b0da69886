-- A fresh start, and one law for each way through a call but the cycle.
use mathlib.Core.Path.{◌≡◌, refl, sym, ap, ◌∙◌}
use mathlib.Core.Bool.{Bool, true, false}
use mathlib.Core.List.{List}
use Prim.Native.Nat.{ℕ}
use lib.Ieee.{Float}
use lib.ListN.{replicate}
use Rattle.base_answer.specs.declared.Answer.{Answer}
use Rattle.base_answer.specs.declared.Answer.TheVariants.{Ended}
use Rattle.score_reader.specs.Score.{Score}
use Rattle.score_line.specs.declared.Line.{Line}
use Rattle.note_state.specs.declared.Note.{Note}
use Rattle.score_bursts.specs.Bursts.{Burst}
use Rattle.player_model.proofs.Lists.{cond-true, cond-false}
use Rattle.score_line.specs.Reading.{blank_line}
use Rattle.entrance_burst.specs.Singly.{burst_submitted_in}
use Rattle.entrance_admission.specs.Submission.{submitted_in}
use Rattle.base_answer.specs.declared.AnsweredLine.{AnsweredLine}
use Rattle.base_answer.specs.declared.AnsweredUnits.{AnsweredUnits}
use Rattle.midi_messages.specs.inside.Reading.{call_of}
use Rattle.midi_queue.specs.Keyboard.{no_messages, enqueued_in}
use Rattle.midi_queue.specs.declared.MessageQueue.{MessageQueue}
use Rattle.std.specs.Prelude.{Result}
use Rattle.base_answer.specs.declared.Answered.{Answered}
use Rattle.player_queue.specs.declared.Queue.{Queue}
use Rattle.code_program.specs.declared.Instrument.{Instrument}
use Rattle.player_state.specs.declared.State.{State}
use Rattle.player_calls.specs.OnState.{empty_note, start_state, with_queue, with_keys, submitted_of, burst_submitted_of, keyboard_call_of}

-- ---- a fresh start

-- its places hold an empty line, an empty note and an empty message
pub start-law : (tempo : Float) (ended : Bool) (l : Line) → l ≡ blank_line → (n : Note) → n ≡ empty_note → (m : MessageQueue) → m ≡ no_messages
    → ◌≡◌ {A = State} (record {
      queue = record { lines = replicate 64 l; count = 0; ran = false; last = 0 };
      messages = m;
      playing = record { notes = record { notes = replicate 16 n; count = 0 }; position = 0; tempo = tempo; missed = 0; ended = ended };
    }) (start_state tempo ended)
start-law tempo ended l e n f m g =
    λ i. record {
      queue = record { lines = replicate 64 (e i); count = 0; ran = false; last = 0 };
      messages = g i;
      playing = record { notes = record { notes = replicate 16 (f i); count = 0 }; position = 0; tempo = tempo; missed = 0; ended = ended };
    }

-- ---- lines and note messages

module _ (table : List Instrument) (s : State) where
  pub brings : (timed : Bool) (score : Score) (r : AnsweredLine Queue) → r ≡ submitted_in s.playing.ended timed table s.queue score
      → record { left = with_queue s r.left; answer = r.answer; line = r.line } ≡ submitted_of table s timed score
  unfolding submitted_of
  brings timed score r e = ap (λ (x : AnsweredLine Queue). record { left = with_queue s x.left; answer = x.answer; line = x.line }) e

  pub sends : (places : ℕ) (b : Burst) (r : AnsweredUnits Queue) → r ≡ burst_submitted_in s.playing.ended table s.queue places b
      → record { left = with_queue s r.left; answer = r.answer; units = r.units } ≡ burst_submitted_of table s places b
  unfolding burst_submitted_of
  sends places b r e = ap (λ (x : AnsweredUnits Queue). record { left = with_queue s x.left; answer = x.answer; units = x.units }) e

module _ (s : State) (bytes : List ℕ) where
  pub keys-over : s.playing.ended ≡ true → record { left = s; answer = Ended } ≡ keyboard_call_of s bytes
  unfolding keyboard_call_of
  keys-over h = sym (cond-true _ _ h)

  pub keys_in : s.playing.ended ≡ false → {r : Result MessageQueue Answer} (x : Result MessageQueue Answer) → r ≡ enqueued_in s.messages (call_of bytes) → r ≡ x
      → with_keys s x ≡ keyboard_call_of s bytes
  unfolding keyboard_call_of
  keys_in h x e f = ap (with_keys s) (sym f ∙ e) ∙ sym (cond-false _ _ h)
