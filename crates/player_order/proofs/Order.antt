-- The order of lines of different times does not matter.
use mathlib.Core.Path.{◌≡◌, refl, sym, ap, ◌∙◌}
use mathlib.Core.Bool.{Bool, true, false, not, true≢false}
use mathlib.Core.List.{List, [], ◌∷◌}
use Prim.Native.Nat.{ℕ, suc, ◌≤◌}
use lib.ListN.{length}
use native.Mathlib.Omega.{arith}
use native.Mathlib.Nat.{le_antisymm}
use lib.Ieee.{Float, eq, le}
use Rattle.base_timebase.specs.Time.{latest, ticks_in}
use Rattle.base_timebase.proofs.Order.{le_trans}
use Rattle.base_timebase.proofs.RangesAndTicks.{ticks-grow}
use Rattle.base_timebase.proofs.Pattern.{too-late}
use Rattle.score_line.specs.declared.When.{When}
use Rattle.score_line.specs.declared.Line.{Line}
use Rattle.player_model.specs.Lists.{filter, All}
use Rattle.player_model.specs.Cycle.{Voices, is_due, ordered}
use Rattle.player_model.specs.PlayerState.{Settings, due_at, later_than}
use Rattle.player_model.specs.Plain.{plain_at}
use Rattle.player_model.specs.Results.{Rearranged, same_time, at_time, is_number, DueOrder}
use Rattle.player_model.proofs.Lists.{by-test, fold-keeps, all_filter}
use Rattle.player_model.proofs.Count.{all_insert, length-onto}
use Rattle.player_model.proofs.Order.{eq-le, eq-back, due-order, alike}
use Rattle.player_order.specs.Order.{AllNumbers, SameByTime, OrderOfTimes}
use Rattle.player_order.proofs.Waits.{Related, go-alike}

-- two tests, one after the other, in either order
pub filter-filter : {A : Type 0} (f g : A → Bool) (xs : List A) → filter f (filter g xs) ≡ filter g (filter f xs)
unfolding filter
filter-filter f g [] = refl
filter-filter f g (x ∷ xs) = by-test (f x) (λ e. by-test (g x) (λ u. cc (filter-filter f g xs)) (λ u. cc (filter-filter f g xs))) (λ e. by-test (g x) (λ u. cc (filter-filter f g xs)) (λ u. cc (filter-filter f g xs)))

pub same-filter : (f : Line → Bool) (xs ys : List Line) → SameByTime xs ys → SameByTime (filter f xs) (filter f ys)
same-filter f xs ys h w = filter-filter _ f xs ∙ ap (filter f) (h w) ∙ filter-filter f _ ys

pub all-ordered : (P : Line → Type 0) (xs : List Line) → All P xs → All P (ordered xs)
unfolding ordered
all-ordered P xs h = fold-keeps (All P) P _ (λ before x p r. all_insert P x before p r) xs h [] tt

pub length-ordered : (xs : List Line) → length (ordered xs) ≡ length xs
unfolding ordered
length-ordered xs = omega (arith, length-onto [] xs)

-- a list and the same in order of time
pub ordered_same : (xs : List Line) → SameByTime (ordered xs) xs
unfolding DueOrder
ordered_same xs = (due-order xs).by_arrival

pub same-ordered : (xs ys : List Line) → AllNumbers xs → AllNumbers ys → SameByTime xs ys → ordered xs ≡ ordered ys
unfolding DueOrder
same-ordered xs ys m n h =
    let a = due-order xs in
    let b = due-order ys in
    alike (ordered xs) (ordered ys) (all-ordered _ xs m) (all-ordered _ ys n) a.by_time b.by_time
    (λ w. a.by_arrival w ∙ h w ∙ sym (b.by_arrival w))

-- lines of numbered times, the same of every time
record Alike (xs ys : List Line) : Type 0 where
  left : AllNumbers xs
  right : AllNumbers ys
  same : SameByTime xs ys

alike-filter : (f : Line → Bool) (xs ys : List Line) → Alike xs ys → Alike (filter f xs) (filter f ys)
alike-filter f xs ys h = record { left = all_filter f _ xs h.left; right = all_filter f _ ys h.right; same = same-filter f xs ys h.same }

pub order-of-times : OrderOfTimes
unfolding OrderOfTimes due_at later_than
order-of-times S v start settings xs ys m n h k =
    go-alike v start settings settings xs ys k Alike
    (record {
      settings = λ j u. refl;
      first = record { left = m; right = n; same = h };
      due = λ j u a b r. let f = is_due (plain_at v start settings ys j).plays.position in
          let q = alike-filter f a b r in same-ordered (filter f a) (filter f b) q.left q.right q.same;
      rest = λ j u a b r. alike-filter (λ (l : Line). not (is_due (plain_at v start settings ys j).plays.position l)) a b r;
    })

-- the same exact time, the same ticks
pub eq-ticks : (x y : Float) → eq x y ≡ true → ticks_in x ≡ ticks_in y
eq-ticks x y e =
    let f = eq-le x y e in
    let b = eq-back x y e in
    by-test (le x latest)
    (λ h. le_antisymm (ticks-grow x y f (le_trans y x latest b h)) (ticks-grow y x b h))
    (λ h. sym (too-late x h) ∙ too-late y (by-test (le y latest) (λ k. absurd (true≢false (sym (le_trans x y latest f k) ∙ h))) (λ k. k)))
