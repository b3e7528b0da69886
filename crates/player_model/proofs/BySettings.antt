-- The settings by the number of the cycle are, from each transition on, those that the transitions from there say.
use mathlib.Core.Path.{◌≡◌, sym, ap, ◌∙◌}
use mathlib.Core.Bool.{true, false, cond}
use mathlib.Core.List.{List, ◌∷◌}
use Prim.Native.Nat.{ℕ, zero, suc, ◌+◌}
use native.Mathlib.Omega.{arith}
use Rattle.settings_records.specs.declared.InUse.{InUse}
use Rattle.player_model.specs.Cycle.{Voices}
use Rattle.player_model.specs.PlayerState.{Settings}
use Rattle.player_model.specs.Calls.{numbered, Transition, cycles_with}
use Rattle.player_model.specs.Set.{in_force, set_with, set_at}
use Rattle.player_model.specs.History.{History, with_transition}
use Rattle.player_model.proofs.Lists.{by-test, cond-true, cond-false}

pub later-set : {P : Type 0} (set : InUse) (m : Transition P) (ms : List (Transition P)) (j : ℕ) → numbered m.call ≡ false → set_at set (m ∷ ms) j ≡ set_at (set_with set m) ms j
unfolding set_at
later-set set m ms zero q = cond-false _ _ q
later-set set m ms (suc j) q = cond-false _ _ q

-- what is set after a transition
abbrev pub next_set : {P : Type 0} → InUse → Transition P → InUse
next_set set m = cond (numbered m.call) set (set_with set m)

pub set_after : {P S : Type 0} (v : Voices S) (chosen : ℕ) (h : History S) (m : Transition P) → (with_transition v chosen h m).set ≡ next_set h.set m
set_after {P} {S} v chosen h m =
    by-test (numbered m.call)
    (λ q. ap (λ (x : History S). x.set) (cond-true _ _ q) ∙ sym (cond-true _ _ q))
    (λ q. ap (λ (x : History S). x.set) (cond-false _ _ q) ∙ sym (cond-false _ _ q))

module _ {P : Type 0} (chosen : ℕ) (settings : ℕ → Settings) where
  unfoldable pub Agree : ℕ → InUse → List (Transition P) → Type 0
  Agree k set ms = (n j : ℕ) → n ≡ k + j → settings n ≡ in_force chosen (set_at set ms j)

  pub agree-here : (k : ℕ) (set : InUse) (m : Transition P) (ms : List (Transition P)) → Agree k set (m ∷ ms) → numbered m.call ≡ true → settings k ≡ in_force chosen set
  unfolding Agree set_at
  agree-here k set m ms a q = a k 0 (omega arith) ∙ ap (in_force chosen) (cond-true _ _ q)

  pub agree_after : (set : InUse) (m : Transition P) (ms : List (Transition P)) → Agree m.cycles set (m ∷ ms) → Agree (cycles_with m) (next_set set m) ms
  unfolding Agree set_at
  agree_after set m ms a =
      by-test (numbered m.call)
      (λ q. rw q (λ n j e. a n (suc j) (omega (arith, e)) ∙ ap (in_force chosen) (cond-true _ _ q)))
      (λ q. rw q (λ n j e. a n j e ∙ ap (in_force chosen) (later-set set m ms j q)))
