-- A cycle learns of what waits only the due lines: two players that hold the same but for lines that wait go alike as long as the same are due.
use mathlib.Core.Path.{◌≡◌, refl, sym, ap, ◌∙◌, subst, subst⁻¹}
use mathlib.Core.Bool.{Bool, true, false, cond}
use mathlib.Core.List.{List}
use Prim.Native.Nat.{ℕ, zero, suc, ◌≤◌}
use native.Mathlib.Omega.{arith}
use lib.Ieee.{Float}
use Rattle.score_line.specs.declared.Line.{Line}
use Rattle.player_model.specs.Cycle.{Voices}
use Rattle.player_model.specs.PlayerState.{Settings, PlayingState, PlayerState, Due, marked_ended, due_at, later_than, due_of, ends_by, answer_of, block_of, played, cycled}
use Rattle.player_model.specs.Plain.{plain_start, plain_at, answer_at, block_at}
use Rattle.player_model.proofs.Lists.{by-test, either_way, cond-true, cond-false}
use Rattle.player_order.specs.UpTo.{SameSettings, SameUpTo}

module _ {S : Type 0} where
  -- the same, with other lines that wait
  abbrev pub with_waits : List Line → PlayerState S → PlayerState S
  with_waits w h = record { waits = w; messages = h.messages; plays = h.plays }

  -- what a cycle leaves of lines that wait
  abbrev pub left_of : PlayerState S → List Line → List Line
  left_of h w = cond h.plays.ended w (cond (ends_by (due_of h) h.plays) w (later_than h.plays.position w))

  -- up to the end, the same are due
  abbrev pub SameDue : PlayerState S → List Line → Type 0
  SameDue h w = h.plays.ended ≡ false → due_at h.plays.position w ≡ due_at h.plays.position h.waits

  module _ (h : PlayerState S) (w : List Line) (same : SameDue h w) where
    pub due-same : h.plays.ended ≡ false → due_of (with_waits w h) ≡ due_of h
    due-same e = λ i. record { lines = same e i; messages = h.messages }

    pub answer-same : answer_of (with_waits w h) ≡ answer_of h
    unfolding answer_of
    answer-same = by-test h.plays.ended (λ e. rw e) (λ e. rw (due-same e))

    pub block_same : h.plays.ended ≡ false → (v : Voices S) (s : Settings) → block_of v s (due_of (with_waits w h)) h.plays ≡ block_of v s (due_of h) h.plays
    block_same e v s = rw (due-same e)

    pub cycle-same : (v : Voices S) (s : Settings) → cycled v s (with_waits w h) ≡ with_waits (left_of h w) (cycled v s h)
    unfolding cycled
    cycle-same v s =
        by-test h.plays.ended (λ e. rw e)
        (λ e. by-test (ends_by (due_of h) h.plays) (λ t. rw (due-same e, t, e)) (λ t. rw (due-same e, t, e)))

  pub cycle-waits : (v : Voices S) (s : Settings) (h : PlayerState S) → (cycled v s h).waits ≡ left_of h h.waits
  unfolding cycled
  cycle-waits v s h =
      by-test h.plays.ended (λ e. rw e) (λ e. by-test (ends_by (due_of h) h.plays) (λ t. rw (t, e)) (λ t. rw (t, e)))

-- Lists related by R: as long as the same are due and what is left is related again, both go alike.
module _ {S : Type 0} (v : Voices S) (start : Float) (s t : ℕ → Settings) (xs ys : List Line) (n : ℕ) (R : List Line → List Line → Type 0) where
  abbrev position : ℕ → ℕ
  position k = (plain_at v start t ys k).plays.position

  pub record Related : Type 0 where
    pub settings : SameSettings n s t
    pub first : R xs ys
    pub due : (k : ℕ) → k ≤ n → (a b : List Line) → R a b → due_at (position k) a ≡ due_at (position k) b
    pub rest : (k : ℕ) → k ≤ n → (a b : List Line) → R a b → R (later_than (position k) a) (later_than (position k) b)

  -- before cycle k
  record Stand (k : ℕ) : Type 0 where
    waits : List Line
    related : R waits (plain_at v start t ys k).waits
    same : plain_at v start s xs k ≡ with_waits waits (plain_at v start t ys k)

  module _ (r : Related) where
    stands : (k : ℕ) → k ≤ suc n → Stand k
    unfolding plain_at plain_start
    stands zero h =
        record { waits = xs; related = r.first; same = refl }
    stands (suc k) h =
        let z : k ≤ n = omega arith in
        let y = stands k (omega arith) in
        let d = plain_at v start t ys k in
        let due = r.due k z y.waits d.waits y.related in
        record {
          waits = left_of d y.waits;
          related =
              rw (cycle-waits v (t k) d) (both_left d y.waits y.related (r.rest k z y.waits d.waits y.related));
          same =
              ap (cycled v (s k)) y.same ∙ ap (λ (x : Settings). cycled v x (with_waits y.waits d)) (r.settings k z)
              ∙ cycle-same d y.waits (λ e. due) v (t k);
        }
      where
        both_left : (d : PlayerState S) (w : List Line) → R w d.waits → R (later_than d.plays.position w) (later_than d.plays.position d.waits)
            → R (left_of d w) (left_of d d.waits)
        both_left d w a b =
            by-test d.plays.ended (λ e. rw e a) (λ e. by-test (ends_by (due_of d) d.plays) (λ u. rw (u, e) a) (λ u. rw (u, e) b))

    -- the same lines act in cycle k
    acts : (k : ℕ) → k ≤ n → due_of (plain_at v start s xs k) ≡ due_of (plain_at v start t ys k)
    acts k h =
        let y = stands k (omega arith) in
        ap due_of y.same ∙ (λ i. record { lines = r.due k h y.waits (plain_at v start t ys k).waits y.related i; messages = (plain_at v start t ys k).messages })

    pub go-alike : SameUpTo v start s t xs ys n
    unfolding answer_at block_at
    go-alike =
        record {
          answers = λ k h. let y = stands k (omega arith) in
              ap answer_of y.same ∙ answer-same (plain_at v start t ys k) y.waits (λ e. r.due k h y.waits (plain_at v start t ys k).waits y.related);
          due = acts;
          blocks = λ k h. let plays = ap (λ (d : PlayerState S). d.plays) (stands k (omega arith)).same in
              λ i. block_of v (r.settings k h i) (acts k h i) (plays i);
          counts = λ k h. ap (λ (d : PlayerState S). d.plays.counts) (stands k h).same;
          plays = λ k h. ap (λ (d : PlayerState S). d.plays) (stands k h).same;
        }
