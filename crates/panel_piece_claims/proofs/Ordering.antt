-- The feeder's order has the same lines of every time as the score, and its ranks tell which lines are due.
use mathlib.Core.Path.{◌≡◌, refl, sym, ap, ◌∙◌, subst, subst⁻¹}
use mathlib.Core.Bool.{Bool, true, false, cond, true≢false}
use mathlib.Core.List.{List, [], ◌∷◌}
use mathlib.Core.Logic.{by_cases}
use Prim.Native.Nat.{ℕ, zero, suc, ◌+◌, ◌*◌, ◌/◌, ◌%◌, ◌≤◌, ◌<◌}
use native.Mathlib.Omega.{arith}
use native.Mathlib.Decide.{dec_le}
use lib.Dec.{leb}
use borrow.Author.Tests.{le-leb, lt-leb}
use Rattle.score_line.specs.declared.When.{When}
use Rattle.score_line.specs.declared.When.TheVariants.{Timed, Untimed}
use Rattle.score_line.specs.declared.Line.{Line}
use Rattle.score_writer.specs.Slots.{slot_read, area_lines}
use Rattle.player_model.specs.Lists.{filter, each, All}
use Rattle.player_model.specs.Cycle.{is_due}
use Rattle.player_model.specs.Condition3.{timed}
use Rattle.player_model.specs.Results.{same_time, at_time}
use Rattle.player_model.proofs.Lists.{by-test, either_way, cond-true, cond-false, all_map}
use Rattle.base_sorting.specs.Sorted.{insert, sorted}
use Rattle.player_order.specs.Order.{SameByTime}
use Rattle.player_order.proofs.Order.{eq-ticks}
use Rattle.panel_feeder.specs.Order.{numbers, ticks_at, line_in, rank_of, number_in, ticks_in_rank, ranks_from, ranks_of, order_of}

-- ---- the same exact time, the same ticks

same-ticks : (w a b : When) → same_time w a ≡ true → same_time w b ≡ true → ticks_at a ≡ ticks_at b
same-ticks (Timed o s) (Timed p t) (Timed q u) h k = sym (eq-ticks s t h) ∙ eq-ticks s u k
same-ticks (Timed o s) (Timed p t) Untimed h k = absurd (true≢false (sym k))
same-ticks (Timed o s) Untimed b h k = absurd (true≢false (sym h))
same-ticks Untimed (Timed p t) b h k = absurd (true≢false (sym h))
same-ticks Untimed Untimed (Timed q u) h k = absurd (true≢false (sym k))
same-ticks Untimed Untimed Untimed h k = refl

-- ---- ranks

number_of : (t i : ℕ) → i < numbers → (t * numbers + i) % numbers ≡ i
number_of t i h = omega arith

ticks-of : (t i : ℕ) → i < numbers → (t * numbers + i) / numbers ≡ t
ticks-of t i h = omega arith

module _ (area : List ℕ) where
  -- the line of a rank
  abbrev pub line_of : ℕ → Line
  line_of k = line_in area (number_in k)

  pub rank-line : (i : ℕ) → i < numbers → line_of (rank_of area i) ≡ line_in area i
  unfolding rank_of
  rank-line i h = ap (line_in area) (number_of (ticks_at (line_in area i).when) i h)

  pub rank-ticks : (i : ℕ) → i < numbers → ticks_in_rank (rank_of area i) ≡ ticks_at (line_in area i).when
  unfolding rank_of
  rank-ticks i h = ticks-of (ticks_at (line_in area i).when) i h

  -- the rank of a line with a number from i on
  pub record Rank (i k : ℕ) : Type 0 where
    pub number : ℕ
    pub from : i ≤ number
    pub below : number < numbers
    pub is : k ≡ rank_of area number

  insert_all : (P : ℕ → Type 0) (x : ℕ) (ys : List ℕ) → P x → All P ys → All P (insert x ys)
  unfolding insert
  insert_all P x [] h a = (h, tt)
  insert_all P x (y ∷ ys) h a = either_way (All P) (leb x y) (h, a) (a.0, insert_all P x ys h a.1)

  pub sorted_all : (P : ℕ → Type 0) (xs : List ℕ) → All P xs → All P (sorted xs)
  unfolding sorted
  sorted_all P [] a = tt
  sorted_all P (x ∷ xs) a = insert_all P x (sorted xs) a.0 (sorted_all P xs a.1)

  pub ranks-all : (n i : ℕ) → i + n ≤ numbers → All (Rank i) (ranks_from area n i)
  unfolding ranks_from
  ranks-all zero i h = tt
  ranks-all (suc n) i h = (
    record { number = i; from = omega arith; below = omega arith; is = refl },
    all_map (Rank (suc i)) (Rank i) (λ k u. record { number = u.number; from = omega (arith, u.from); below = u.below; is = u.is }) (ranks_from area n (suc i)) (ranks-all n (suc i) (omega arith)),
  )

  -- a rank that is passed over is of an earlier time
  passed : (i : ℕ) → i < numbers → (y : ℕ) → Rank (suc i) y → leb (rank_of area i) y ≡ false → (w : When) → same_time w (line_of (rank_of area i)).when ≡ true → same_time w (line_of y).when ≡ true → ⊥
  passed i h y u e w a b =
      let x-is = ap (λ (l : Line). l.when) (rank-line i h) in
      let y-is = ap (λ (l : Line). l.when) (ap line_of u.is ∙ rank-line u.number u.below) in
      let t = same-ticks w (line_in area i).when (line_in area u.number).when (ap (same_time w) (sym x-is) ∙ a) (ap (same_time w) (sym y-is) ∙ b) in
      true≢false (sym (le-leb (rank_of area i) y (in_order t)) ∙ e)
    where
      in_order : ticks_at (line_in area i).when ≡ ticks_at (line_in area u.number).when → rank_of area i ≤ y
      in_order t = subst⁻¹ (λ (k : ℕ). rank_of area i ≤ k) u.is (smaller t u.from)
        where
          smaller : ticks_at (line_in area i).when ≡ ticks_at (line_in area u.number).when → suc i ≤ u.number → rank_of area i ≤ rank_of area u.number
          smaller t f = unfold rank_of in rw t (omega arith)

  at-insert : (w : When) (i : ℕ) → i < numbers → (ys : List ℕ) → All (Rank (suc i)) ys → at_time w (each line_of (insert (rank_of area i) ys)) ≡ at_time w (line_of (rank_of area i) ∷ each line_of ys)
  unfolding insert each filter
  at-insert w i h [] a = refl
  at-insert w i h (y ∷ ys) a =
      by-test (leb (rank_of area i) y) (λ e. rw e)
      (λ e. rw e (ap (λ (l : List Line). cond (same_time w (line_of y).when) (line_of y ∷ l) l) (at-insert w i h ys a.1)
      ∙ by-test (same_time w (line_of y).when)
      (λ u. by-test (same_time w (line_of (rank_of area i)).when) (λ v. absurd (passed i h y a.0 e w v u)) (λ v. rw (u, v)))
      (λ u. by-test (same_time w (line_of (rank_of area i)).when) (λ v. rw (u, v)) (λ v. rw (u, v)))))

  same_from : (n i : ℕ) → i + n ≤ numbers → SameByTime (each line_of (sorted (ranks_from area n i))) (area_lines area n i)
  unfolding ranks_from sorted area_lines each filter
  same_from zero i h w = refl
  same_from (suc n) i h w =
      at-insert w i (omega arith) (sorted (ranks_from area n (suc i))) (sorted_all (Rank (suc i)) (ranks_from area n (suc i)) (ranks-all n (suc i) (omega arith)))
      ∙ (λ j. cond (same_time w (rank-line i (omega arith) j).when) (rank-line i (omega arith) j ∷ same_from n (suc i) (omega arith) w j) (same_from n (suc i) (omega arith) w j))

  pub order_same : (n : ℕ) → n ≤ numbers → SameByTime (each line_of (order_of area n)) (area_lines area n 0)
  unfolding order_of ranks_of
  order_same n h = same_from n 0 (omega arith)
