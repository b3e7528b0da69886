-- Where no line is due, none acts and all stay.
use mathlib.Core.Path.{◌≡◌, refl, sym, ap, ◌∙◌}
use mathlib.Core.Bool.{Bool, true, false, not, ◌||◌, true≢false}
use mathlib.Core.List.{List, [], ◌∷◌}
use Prim.Native.Nat.{ℕ}
use Rattle.score_line.specs.declared.Line.{Line}
use Rattle.player_model.specs.Lists.{filter, fold}
use Rattle.player_model.specs.Cycle.{is_due}
use Rattle.player_model.proofs.Lists.{cond-true, cond-false}
use Rattle.player_queue.specs.Waiting.{any_due}

module _ (position : ℕ) where
  stays-found : (ls : List Line) → fold (λ (found : Bool) (l : Line). found || is_due position l) true ls ≡ true
  unfolding fold
  stays-found [] = refl
  stays-found (l ∷ ls) = stays-found ls

  -- a line is due, or none of the others is
  or_else : {P : Type 0} (l : Line) (ls : List Line) → any_due position (l ∷ ls) ≡ false → (is_due position l ≡ false → any_due position ls ≡ false → P) → P
  unfolding any_due fold
  or_else {P} l ls h f = go (is_due position l) refl h
    where
      go : (b : Bool) → is_due position l ≡ b → fold (λ (found : Bool) (l : Line). found || is_due position l) b ls ≡ false → P
      go true q e = absurd (true≢false (sym (stays-found ls) ∙ e))
      go false q e = f q e

  pub none-acts : (ls : List Line) → any_due position ls ≡ false → filter (is_due position) ls ≡ []
  unfolding filter
  none-acts [] h = refl
  none-acts (l ∷ ls) h = or_else l ls h (λ q e. cond-false _ _ q ∙ none-acts ls e)

  pub all_stay : (ls : List Line) → any_due position ls ≡ false → filter (λ (l : Line). not (is_due position l)) ls ≡ ls
  unfolding filter
  all_stay [] h = refl
  all_stay (l ∷ ls) h = or_else l ls h (λ q e. cond-true _ _ (ap not q) ∙ ap (λ (t : List Line). l ∷ t) (all_stay ls e))
