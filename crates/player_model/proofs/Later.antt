-- Lines taken after a cycle that answered 0 are above its position, since the plain player's position never falls.
use mathlib.Core.Path.{◌≡◌}
use mathlib.Core.Bool.{◌&&◌}
use mathlib.Core.List.{List, [], ◌∷◌}
use mathlib.Core.Logic.{by_cases}
use Prim.Native.Nat.{ℕ, suc, zero, ◌≤◌}
use lib.Ieee.{Float}
use native.Mathlib.Omega.{arith}
use native.Mathlib.Decide.{dec_le}
use native.Mathlib.Nat.{le_trans, le_refl}
use Rattle.score_line.specs.declared.Line.{Line}
use Rattle.player_model.specs.Lists.{All}
use Rattle.player_model.specs.Cycle.{Voices}
use Rattle.player_model.specs.PlayerState.{Settings, PlayerState, marked_ended, due_of, ends_by, played, cycled}
use Rattle.player_model.specs.Plain.{plain_at}
use Rattle.player_model.specs.Calls.{Call, Player, Last, none, latest, numbered, is_zero, taken_in, cycles_with, last_with, transition_of, trace_from, all_taken}
use Rattle.player_model.specs.Condition3.{above, in_time, InTime}
use Rattle.player_model.proofs.Lists.{either_way, all_append, all_map}
use Rattle.player_model.proofs.Join.{AllAbove, above-weaken}

module _ {S : Type 0} (v : Voices S) where
  cycle-mono : (s : Settings) (h : PlayerState S) → h.plays.position ≤ (cycled v s h).plays.position
  unfolding cycled marked_ended played
  cycle-mono s h =
      let P : PlayerState S → Type 0 = λ (d : PlayerState S). h.plays.position ≤ d.plays.position in
      either_way P h.plays.ended (omega arith) (either_way P (ends_by (due_of h) h.plays) (omega arith) (omega arith))

  at-mono : (start : Float) (settings : ℕ → Settings) (ls : List Line) (a b : ℕ) → a ≤ b → (plain_at v start settings ls a).plays.position ≤ (plain_at v start settings ls b).plays.position
  unfolding plain_at
  at-mono start settings ls a zero h = let e : a ≡ zero = omega arith in rw e (omega arith)
  at-mono start settings ls a (suc b) h =
      by_cases (dec_le a b) (λ k. le_trans (at-mono start settings ls a b k) (cycle-mono (settings b) (plain_at v start settings ls b)))
      (λ k. let e : a ≡ suc b = omega arith in rw e (le_refl _))

-- the number of the last cycle that answered 0 is at least this one
abbrev pub From : ℕ → Last → Type 0
From z₀ none = ⊥
From z₀ (latest z) = z₀ ≤ z

module _ {P S : Type 0} (e : Player P) (v : Voices S) (start : Float) (settings : ℕ → Settings) (ls : List Line) (z₀ : ℕ) where
  above_from : (y : Last) → From z₀ y → (l : Line) → in_time e v start settings ls y l → above (plain_at v start settings ls z₀).plays.position l.when
  above_from none h l = absurd h
  above_from (latest z) h l = above-weaken _ _ l.when (at-mono v start settings ls z₀ z h)

  pub later : (cs : List Call) (p : P) (y : Last) (k : ℕ) → From z₀ y → z₀ ≤ k → All (InTime e v start settings ls) (trace_from e k y p cs)
      → AllAbove (plain_at v start settings ls z₀).plays.position (all_taken (trace_from e k y p cs))
  unfolding trace_from all_taken
  later [] p y k h g t = tt
  later (c ∷ cs) p y k h g t =
      let m = transition_of e k y p c in
      all_append _ (taken_in m) _ (all_map _ _ (above_from y h) (taken_in m) t.0)
      (later cs (e.after p c).player (last_with m) (cycles_with m) (either_way (From z₀) (numbered c && is_zero (e.after p c).answers) g h)
      (either_way (λ (n : ℕ). z₀ ≤ n) (numbered c) (omega arith) g) t.1)
