-- The two ways through a cycle.
use mathlib.Core.Path.{◌≡◌, refl, sym, ap, ◌∙◌}
use mathlib.Core.Bool.{Bool, true, false, cond, ◌||◌}
use mathlib.Core.List.{List}
use Prim.Native.Nat.{ℕ}
use lib.IntN.{ℤ}
use lib.Dec.{ltb}
use Rattle.engine_limiter.specs.Block as block
use Rattle.score_line.specs.declared.Line.{Line}
use Rattle.player_model.specs.Lists.{filter}
use Rattle.player_model.specs.Cycle.{Voices, position_limit, is_due, ordered, any_end}
use Rattle.player_model.specs.PlayerState.{Due, settings_of, due_at, due_of, ends_by, rendered_of, played}
use Rattle.player_model.specs.inside.PlayerState.{capped}
use Rattle.player_model.proofs.Lists.{cond-true, cond-false}
use Rattle.player_queue.specs.Admission.{waiting_in}
use Rattle.player_queue.specs.declared.Queue.{Queue}
use Rattle.midi_queue.specs.Keyboard.{messages_in}
use Rattle.midi_queue.specs.declared.MessageQueue.{MessageQueue}
use Rattle.voices_compiled.specs.Voices.{VoiceState}
use Rattle.player_state.specs.Playing.{playing_state_of}
use Rattle.player_steps.specs.Steps.{advanced}
use Rattle.player_state.specs.declared.Playing.{Playing}
use Rattle.player_state.specs.States.{player_state_of, ends_now, stopped, queue_after, used_of}
use Rattle.player_state.specs.declared.State.{State}
use Rattle.player_cycle.specs.OneCycle.{played_of, state_after, block_after}

module _ (v : Voices VoiceState) (ceiling most chosen : ℕ) (s : State) (due : List Line) (is : due ≡ ordered (filter (is_due s.playing.position) (waiting_in s.queue)))
    (b : Bool) (q : b ≡ (ltb position_limit s.playing.position || any_end due)) where
  due-law : record { lines = due; messages = messages_in s.messages } ≡ due_of (player_state_of s)
  unfolding due_at
  due-law = ap (λ (ls : List Line). record { lines = ls; messages = messages_in s.messages }) is

  ends-law : b ≡ ends_now s
  unfolding ends_by
  ends-law = q ∙ ap (λ (d : Due). ltb position_limit s.playing.position || any_end d.lines) due-law

  pub cycle-stops : b ≡ true → record { queue = s.queue; messages = s.messages; playing = stopped s.playing } ≡ state_after v (settings_of ceiling most chosen) s
  unfolding state_after
  cycle-stops t = sym (cond-true _ _ (sym ends-law ∙ t))

  pub cycle-plays : b ≡ false → (p : Playing) → p ≡ advanced v (settings_of ceiling most chosen) (record { lines = due; messages = messages_in s.messages }) s.playing
      → (k : Queue) → k ≡ queue_after s.playing.position s.queue → (m : MessageQueue) → m ≡ used_of s.messages
      → record { queue = k; messages = m; playing = p } ≡ state_after v (settings_of ceiling most chosen) s
  unfolding state_after played_of
  cycle-plays t p e k f m g =
      (λ i. record { queue = f i; messages = g i; playing = (e ∙ ap (λ (d : Due). advanced v (settings_of ceiling most chosen) d s.playing) due-law) i })
      ∙ sym (cond-false _ _ (sym ends-law ∙ t))

  module _ (lent : List ℤ) where
    pub block-stays : b ≡ true → lent ≡ block_after v (settings_of ceiling most chosen) s lent
    unfolding block_after
    block-stays t = sym (cond-true _ _ (sym ends-law ∙ t))

    pub block-plays : b ≡ false → (left : List ℤ) → left ≡ block.limited ceiling (rendered_of v (settings_of ceiling most chosen) (record { lines = due; messages = messages_in s.messages }) (playing_state_of s.playing)).mix lent
        → left ≡ block_after v (settings_of ceiling most chosen) s lent
    unfolding block_after
    block-plays t left e =
        e ∙ ap (λ (d : Due). block.limited ceiling (rendered_of v (settings_of ceiling most chosen) d (playing_state_of s.playing)).mix lent) due-law
        ∙ sym (cond-false _ _ (sym ends-law ∙ t))

-- ---- for callers: the mark of the end tells which way it went

module _ (v : Voices VoiceState) (ceiling most chosen : ℕ) (s s' : State) (e : s' ≡ state_after v (settings_of ceiling most chosen) s) where
  marked : (b : Bool) → (cond b (record { queue = s.queue; messages = s.messages; playing = stopped s.playing }) (played_of v (settings_of ceiling most chosen) s)).playing.ended ≡ b
  unfolding stopped played_of advanced capped played
  marked true = refl
  marked false = refl

  pub ended-law : ends_now s ≡ s'.playing.ended
  unfolding state_after
  ended-law = sym (marked (ends_now s)) ∙ ap (λ (x : State). x.playing.ended) (sym e)

  pub has-stopped : s'.playing.ended ≡ true → s' ≡ record { queue = s.queue; messages = s.messages; playing = stopped s.playing }
  unfolding state_after
  has-stopped t = e ∙ cond-true _ _ (ended-law ∙ t)

  pub has-played : s'.playing.ended ≡ false → s' ≡ played_of v (settings_of ceiling most chosen) s
  unfolding state_after
  has-played t = e ∙ cond-false _ _ (ended-law ∙ t)
