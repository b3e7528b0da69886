-- Laws of a note's values: those that a line brings, and those set by the names of imports.
use mathlib.Core.Path.{◌≡◌, refl, sym, ap, ◌∙◌}
use mathlib.Core.Bool.{cond}
use mathlib.Core.List.{List, [], ◌∷◌}
use Prim.Native.Nat.{ℕ, zero, suc, ◌+◌, ◌-◌, ◌≤◌, ◌<◌, min}
use native.Mathlib.Omega.{arith}
use native.Mathlib.Decide.{dec_le}
use native.Mathlib.Numerals.{add-one}
use native.Mathlib.Nat.{le_of_suc-le-suc}
use lib.Dec.{eqb}
use lib.Ieee.{Float}
use lib.ListN.{length, take, get_or, set, length-take}
use lib.Seq.{take-suc, take-suc-set, take_all, take-take}
use Rattle.player_model.specs.Cycle as cycle
use Rattle.voices_compiled.specs.Voices.{named}

-- the first a of the first b
pub take-both : {A : Type 0} (a b : ℕ) (l : List A) → take (min a b) l ≡ take a (take b l)
take-both {A} a b l = go (dec_le a b)
  where
    go : Dec (a ≤ b) → take (min a b) l ≡ take a (take b l)
    go (yes h) = let e : min a b ≡ a = omega arith in ap (λ (n : ℕ). take n l) e ∙ sym (take-take a b l h)
    go (no h) = let e : min a b ≡ b = omega arith in ap (λ (n : ℕ). take n l) e ∙ sym (take_all a (take b l) (omega (arith, length-take b l)))

-- ---- values by the names of imports

module _ (x : ℕ) (a : Float) where
  length-named : (is : List ℕ) (vs : List Float) → length (named x a is vs) ≡ length vs
  unfolding named
  length-named [] vs = refl
  length-named (i ∷ is) [] = refl
  length-named (i ∷ is) (v ∷ vs) = ap suc (length-named is vs)

  get_d-named : (is : List ℕ) (vs : List Float) (j e : ℕ) (d : Float) → j < length is → j < length vs
      → get_or (named x a is vs) j d ≡ cond (eqb (get_or is j e) x) a (get_or vs j d)
  unfolding named
  get_d-named [] vs j e d h k = absurd (omega arith)
  get_d-named (i ∷ is) [] j e d h k = absurd (omega arith)
  get_d-named (i ∷ is) (v ∷ vs) zero e d h k = refl
  get_d-named (i ∷ is) (v ∷ vs) (suc j) e d h k = get_d-named is vs j e d (le_of_suc-le-suc h) (le_of_suc-le-suc k)

  module _ (is : List ℕ) (vs : List Float) (li : length is ≡ 16) (lv : length vs ≡ 16) where
    pub named_step : (out : List Float) (j e : ℕ) (d y : Float) → j < 16 → length out ≡ 16
        → take j out ≡ take j (named x a is vs) → y ≡ cond (eqb (get_or is j e) x) a (get_or vs j d)
        → take (j + 1) (set out j y) ≡ take (j + 1) (named x a is vs)
    named_step out j e d y h lo p q =
        let ln = length-named is vs in
        rw (
          add-one,
          take-suc-set out j y (omega arith),
          take-suc (named x a is vs) j d (omega (arith, ln)),
          p,
          q,
          get_d-named is vs j e d (omega arith) (omega arith),
        )

    pub named_end : (out : List Float) (j : ℕ) → 16 ≤ j → length out ≡ 16 → take j out ≡ take j (named x a is vs) → out ≡ named x a is vs
    named_end out j h lo p =
        let ln = length-named is vs in
        sym (take_all j out (omega arith)) ∙ p ∙ take_all j (named x a is vs) (omega (arith, ln))
