-- One law for each way: step 1, what waits, whether a cycle is one of rest, and what it leaves then.
use mathlib.Core.Path.{◌≡◌, refl, sym, ap, ◌∙◌}
use mathlib.Core.Bool.{Bool, true, false, not, ◌&&◌, ◌||◌}
use mathlib.Core.List.{List}
use Prim.Native.Nat.{ℕ, ◌+◌, ◌≤◌, ◌<◌, min}
use lib.Dec.{ltb, eqb}
use lib.ListN.{length}
use borrow.Author.Tests.{ltb-false, lt-ltb, le-ltb, eqb-true, eq-eqb, ne_eqb, not-true}
use Rattle.base_laws.proofs.Choice.{both_true}
use Rattle.base_timebase.specs.Time.{cycle_in}
use Rattle.score_line.specs.declared.Line.{Line}
use Rattle.player_model.specs.Lists.{filter, over}
use Rattle.player_model.specs.Cycle.{position_limit, is_due, any_end}
use Rattle.player_model.specs.PlayerState.{later_than}
use Rattle.player_queue.specs.Waiting.{any_due}
use Rattle.player_queue.specs.Admission.{waiting_in}
use Rattle.player_queue.specs.declared.Queue.{Queue}
use Rattle.player_state.specs.States.{queue_after, is_idle_now, after_idle}
use Rattle.player_state.specs.declared.State.{State}

-- ---- step 1

pub over-far : (position : ℕ) (due : List Line) → position_limit < position → true ≡ (ltb position_limit position || any_end due)
over-far position due h = ap (λ (t : Bool). t || any_end due) (sym (lt-ltb position_limit position h))

pub over-near : (position : ℕ) (due : List Line) → position ≤ position_limit → (b : Bool) → b ≡ any_end due → b ≡ (ltb position_limit position || any_end due)
over-near position due h b e = e ∙ ap (λ (t : Bool). t || any_end due) (sym (le-ltb position_limit position h))

-- what is not over is at or before the limit
neither : (a b : Bool) → (a || b) ≡ false → a ≡ false
neither true b h = h
neither false b h = refl

pub near-law : (position : ℕ) (b : Bool) → (ltb position_limit position || b) ≡ false → position ≤ position_limit
near-law position b h = ltb-false position_limit position (neither (ltb position_limit position) b h)

-- ---- what waits

pub queue-law : (position : ℕ) (q : Queue) (kl : List Line) (kc : ℕ)
    → kc ≡ length (filter (λ (l : Line). not (is_due position l)) (waiting_in q)) → kl ≡ over (filter (λ (l : Line). not (is_due position l)) (waiting_in q)) q.lines
    → record { lines = kl; count = kc; ran = true; last = position } ≡ queue_after position q
unfolding queue_after later_than
queue-law position q kl kc e f = λ i. record { lines = f i; count = e i; ran = true; last = position }

-- ---- whether it rests: one law for each way

module _ (s : State) where
  abbrev no_due : Bool
  no_due = not (any_due s.playing.position (waiting_in s.queue))

  pub past-limit : position_limit < s.playing.position → false ≡ is_idle_now s
  unfolding is_idle_now
  past-limit h =
      sym (λ i. not (lt-ltb position_limit s.playing.position h i) && eqb s.playing.notes.count 0 && eqb s.messages.count 0 && no_due)

  module _ (h : s.playing.position ≤ position_limit) where
    pub note-sounds : (s.playing.notes.count ≡ 0 → ⊥) → false ≡ is_idle_now s
    unfolding is_idle_now
    note-sounds a =
        sym (λ i. not (le-ltb position_limit s.playing.position h i) && ne_eqb s.playing.notes.count 0 a i && eqb s.messages.count 0 && no_due)

    pub message-waits : s.playing.notes.count ≡ 0 → (s.messages.count ≡ 0 → ⊥) → false ≡ is_idle_now s
    unfolding is_idle_now
    message-waits a b =
        sym (λ i. not (le-ltb position_limit s.playing.position h i) && eq-eqb s.playing.notes.count 0 a i && ne_eqb s.messages.count 0 b i && no_due)

    pub by-due : s.playing.notes.count ≡ 0 → s.messages.count ≡ 0 → {b : Bool} → b ≡ any_due s.playing.position (waiting_in s.queue) → not b ≡ is_idle_now s
    unfolding is_idle_now
    by-due a b e =
        sym (λ i. not (le-ltb position_limit s.playing.position h i) && eq-eqb s.playing.notes.count 0 a i && eq-eqb s.messages.count 0 b i && not (sym e i))

  -- the four facts of a state that rests
  pub record Rest : Type 0 where
    pub near : ltb position_limit s.playing.position ≡ false
    pub notes : s.playing.notes.count ≡ 0
    pub messages : s.messages.count ≡ 0
    pub due : any_due s.playing.position (waiting_in s.queue) ≡ false

  pub rest-facts : is_idle_now s ≡ true → Rest
  unfolding is_idle_now
  rest-facts h =
      let near = not (ltb position_limit s.playing.position) in
      let quiet = eqb s.playing.notes.count 0 in
      let empty = eqb s.messages.count 0 in
      let c = both_true (near && quiet && empty) no_due h in
      let b = both_true (near && quiet) empty c.0 in
      let a = both_true near quiet b.0 in
      record { near = not-true _ a.0; notes = eqb-true _ 0 a.1; messages = eqb-true _ 0 b.1; due = not-true _ c.1 }

  pub rest-near : is_idle_now s ≡ true → s.playing.position ≤ position_limit
  rest-near h = ltb-false position_limit s.playing.position (rest-facts h).near

-- ---- what it leaves

-- from its parts
pub rested-law : (s : State) (step : ℕ) → step ≡ cycle_in s.playing.tempo → (waiting : ℕ) → waiting ≡ min s.queue.count 64
    → ◌≡◌ {A = State} (record {
      queue = record { lines = s.queue.lines; count = waiting; ran = true; last = s.playing.position };
      messages = s.messages;
      playing = record { notes = s.playing.notes; position = s.playing.position + step; tempo = s.playing.tempo; missed = s.playing.missed; ended = false };
    }) (after_idle s)
unfolding after_idle
rested-law s step e waiting f =
    λ i. record {
      queue = record { lines = s.queue.lines; count = f i; ran = true; last = s.playing.position };
      messages = s.messages;
      playing = record { notes = s.playing.notes; position = s.playing.position + e i; tempo = s.playing.tempo; missed = s.playing.missed; ended = false };
    }
