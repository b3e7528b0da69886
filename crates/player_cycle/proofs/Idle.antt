-- An idle cycle is what the steps give where nothing acts and nothing sounds.
use mathlib.Core.Path.{◌≡◌, refl, sym, ap, ◌∙◌, subst}
use mathlib.Core.Bool.{true, false, ◌||◌}
use mathlib.Core.List.{List, []}
use Prim.Native.Nat.{ℕ, ◌+◌, ◌≤◌, min}
use native.Mathlib.Omega.{arith}
use lib.Dec.{ltb}
use lib.IntN.{ℤ}
use lib.Ieee.{Float}
use lib.ListN.{length, take, length-take}
use Rattle.base_timebase.specs.Time.{cycle_in}
use Rattle.engine_limiter.specs.Block as block
use Rattle.score_line.specs.declared.Line.{Line}
use Rattle.player_model.specs.Lists.{fold, filter, each, over}
use Rattle.player_model.specs.Cycle.{Voices, position_limit, ordered, any_end, last_tempo, started, controlled, after_messages, run_from, run_all}
use Rattle.player_model.specs.PlayerState.{Settings, Due, due_at, later_than, due_of, ends_by, started_of, notes_to_run, rendered_of, played}
use Rattle.player_model.specs.inside.PlayerState.{capped, most_counted}
use Rattle.player_model.proofs.Lists.{cond-false}
use Rattle.player_queue.specs.Admission.{waiting_in}
use Rattle.player_queue.proofs.Idle.{none-acts, all_stay}
use Rattle.voices_compiled.specs.Voices.{VoiceState}
use Rattle.note_pool.proofs.Steps.{over-self}
use Rattle.player_state.specs.Playing.{playing_state_of}
use Rattle.player_steps.specs.Steps.{advanced}
use Rattle.player_state.specs.declared.Playing.{Playing}
use Rattle.player_state.specs.States.{player_state_of, ends_now, queue_after, is_idle_now, after_idle, silence}
use Rattle.player_state.specs.declared.State.{State}
use Rattle.player_state.proofs.Idle.{Rest, rest-facts}
use Rattle.player_cycle.specs.OneCycle.{played_of, state_after, block_after}

module _ (v : Voices VoiceState) (x : Settings) where
  abbrev none : Due
  none = record { lines = []; messages = [] }

  abbrev counted : Playing → ℕ → Playing
  counted p k =
      record { notes = record { notes = p.notes.notes; count = k }; position = p.position; tempo = p.tempo; missed = p.missed; ended = p.ended }

  abbrev on : Playing → ℕ → Playing
  on p missed = record { notes = p.notes; position = p.position + cycle_in p.tempo; tempo = p.tempo; missed = missed; ended = false }

  plays-here : (p : Playing) → advanced v x none (counted p 0) ≡ on (counted p 0) (min (p.missed + 0) most_counted)
  unfolding advanced capped played rendered_of notes_to_run started_of started controlled after_messages fold run_all run_from filter each last_tempo
  plays-here p = refl

  none-plays : (p : Playing) → p.notes.count ≡ 0 → p.missed ≤ most_counted → advanced v x none p ≡ on p p.missed
  none-plays p e h =
      let m : min (p.missed + 0) most_counted ≡ p.missed = omega (arith, h) in
      subst (λ (k : ℕ). advanced v x none (counted p k) ≡ on (counted p k) p.missed) (sym e) (plays-here p ∙ ap (on (counted p 0)) m)

  heard-here : (p : Playing) → (rendered_of v x none (playing_state_of (counted p 0))).mix ≡ silence
  unfolding rendered_of notes_to_run started_of started controlled after_messages fold run_all run_from each silence
  heard-here p = refl

  none-heard : (p : Playing) → p.notes.count ≡ 0 → (rendered_of v x none (playing_state_of p)).mix ≡ silence
  none-heard p e = subst (λ (k : ℕ). (rendered_of v x none (playing_state_of (counted p k))).mix ≡ silence) (sym e) (heard-here p)

  module _ (s : State) (h : is_idle_now s ≡ true) where
    abbrev position : ℕ
    position = s.playing.position

    abbrev facts : Rest s
    facts = rest-facts s h

    acts : due_of (player_state_of s) ≡ none
    unfolding due_at ordered fold
    acts = λ i. record { lines = ordered (none-acts position (waiting_in s.queue) facts.due i); messages = take (facts.messages i) s.messages.list }

    goes_on : ends_now s ≡ false
    unfolding ends_by any_end fold
    goes_on = (λ i. ltb position_limit position || any_end (acts i).lines) ∙ (λ i. facts.near i || false)

    pub rest-law : length s.queue.lines ≡ 64 → s.playing.missed ≤ most_counted → after_idle s ≡ state_after v x s
    unfolding after_idle state_after played_of queue_after later_than
    rest-law long few =
        let later : waiting_in s.queue ≡ later_than position (waiting_in s.queue) = sym (all_stay position (waiting_in s.queue) facts.due) in
        (λ i. record {
          queue = record {
            lines = (over-self s.queue.count s.queue.lines ∙ ap (λ (ls : List Line). over ls s.queue.lines) later) i;
            count = (ap (min s.queue.count) (sym long) ∙ sym (length-take s.queue.count s.queue.lines) ∙ ap length later) i;
            ran = true;
            last = position;
          };
          messages = record { list = s.messages.list; count = facts.messages i };
          playing = (sym (none-plays s.playing facts.notes few) ∙ ap (λ (d : Due). advanced v x d s.playing) (sym acts)) i;
        })
        ∙ sym (cond-false _ _ goes_on)

    pub rest-block : (lent : List ℤ) → block.limited x.ceiling silence lent ≡ block_after v x s lent
    unfolding block_after
    rest-block lent =
        ap (λ (m : List Float). block.limited x.ceiling m lent)
        (sym (none-heard s.playing facts.notes) ∙ ap (λ (d : Due). (rendered_of v x d (playing_state_of s.playing)).mix) (sym acts))
        ∙ sym (cond-false _ _ goes_on)
