-- Lines that are not due yet commute with a cycle: with such lines behind the others it does what it does without them, and they still wait.
use mathlib.Core.Path.{◌≡◌, sym, ap, ◌∙◌}
use mathlib.Core.Bool.{Bool, false, not}
use mathlib.Core.List.{List, [], ◌++◌, append-nil}
use Prim.Native.Nat.{ℕ, ◌≤◌}
use native.Mathlib.Omega.{arith}
use borrow.Author.Tests.{lt-leb}
use Rattle.base_timebase.specs.Time.{ticks_in}
use Rattle.score_line.specs.declared.When.{When}
use Rattle.score_line.specs.declared.When.TheVariants.{Timed, Untimed}
use Rattle.score_line.specs.declared.Line.{Line}
use Rattle.player_model.specs.Lists.{All}
use Rattle.player_model.specs.Cycle.{Voices, due_when, is_due}
use Rattle.player_model.specs.PlayerState.{Settings, PlayerState, behind, due_at, later_than, due_of, ends_by, block_of, played, cycled}
use Rattle.player_model.specs.Condition3.{above}
use Rattle.player_model.proofs.Lists.{cond-false, filter-append, filter_none, filter-all, all_map}

-- every line's ticks are above a position
abbrev pub AllAbove : ℕ → List Line → Type 0
AllAbove position ls = All (λ (l : Line). above position l.when) ls

above-due : (position : ℕ) (w : When) → above position w → due_when position w ≡ false
above-due position (Timed late t) h = lt-leb (ticks_in t) position h
above-due position Untimed h = absurd h

pub above-weaken : (a b : ℕ) (w : When) → a ≤ b → above b w → above a w
above-weaken a b (Timed late t) h k = omega arith
above-weaken a b Untimed h k = k

pub behind-none : {S : Type 0} (h : PlayerState S) → behind [] h ≡ h
unfolding behind
behind-none h = λ i. record { waits = append-nil h.waits i; messages = h.messages; plays = h.plays }

module _ {S : Type 0} (h : PlayerState S) (f : List Line) (a : AllAbove h.plays.position f) where
  due-join : due_of (behind f h) ≡ due_of h
  unfolding due_at behind is_due
  due-join =
      rw (
        filter-append (is_due h.plays.position) h.waits f,
        filter_none (is_due h.plays.position) f (all_map _ _ (λ l. above-due h.plays.position l.when) f a),
        append-nil,
      )

  later-join : later_than h.plays.position (h.waits ++ f) ≡ later_than h.plays.position h.waits ++ f
  unfolding later_than is_due
  later-join =
      let k : Line → Bool = λ (l : Line). not (is_due h.plays.position l) in
      rw (filter-append k h.waits f, filter-all k f (all_map _ _ (λ l u. ap not (above-due h.plays.position l.when u)) f a))

  pub ends_join : ends_by (due_of (behind f h)) (behind f h).plays ≡ ends_by (due_of h) h.plays
  unfolding behind
  ends_join = rw due-join

  module _ (v : Voices S) (s : Settings) where
    pub block-join : block_of v s (due_of (behind f h)) (behind f h).plays ≡ block_of v s (due_of h) h.plays
    unfolding behind
    block-join = rw due-join

    -- a cycle that plays
    pub plays-join : h.plays.ended ≡ false → ends_by (due_of h) h.plays ≡ false → cycled v s (behind f h) ≡ behind f (cycled v s h)
    unfolding cycled behind
    plays-join r e =
        cond-false _ _ r ∙ cond-false _ _ (ends_join ∙ e)
        ∙ (λ i. record { waits = later-join i; messages = []; plays = played v s (due-join i) h.plays })
        ∙ sym (ap (behind f) (cond-false _ _ r ∙ cond-false _ _ e))
