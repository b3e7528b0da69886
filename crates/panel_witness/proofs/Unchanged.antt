-- A fresh start's settings, and that they stay as long as no call is a change or an undo.
use mathlib.Core.Path.{◌≡◌, refl, sym, ap, ◌∙◌, subst, subst⁻¹}
use mathlib.Core.Bool.{Bool, true, false, cond}
use mathlib.Core.List.{List, [], ◌∷◌}
use native.Mathlib.Omega.{arith}
use Prim.Native.Nat.{ℕ, zero, suc}
use lib.Ieee.{Float}
use lib.ListN.{length, length-replicate}
use Rattle.settings_records.specs.Form as form
use Rattle.settings_records.specs.Changes.{area_bytes}
use Rattle.settings_records.specs.inside.Reading as reading
use Rattle.settings_records.specs.declared.InUse.{InUse}
use Rattle.player_model.specs.Lists.{All}
use Rattle.player_model.specs.PlayerState.{Settings}
use Rattle.player_model.specs.Calls.{is_zero, numbered, Transition}
use Rattle.player_model.specs.Set.{set_by, set_with, set_at, in_force, starting_tempo}
use Rattle.panel_claims.specs.Fresh.{Setup}
use Rattle.panel_claims.specs.Claims.{first_in_use, settings}
use Rattle.panel_witness.specs.Growing.{ceiling, chosen, first, blank, setup, set_at_start, start, fixed}

pub whole : length blank ≡ area_bytes
unfolding blank
whole = length-replicate {A = ℕ} area_bytes 0

-- the first record says what it sets
pub first_says : form.Parses (form.encoded (first ceiling)) (form.found (form.sets (first ceiling)) 6)
first_says =
    form.valid [] refl (form.first {a = 127} {b = 255} {n = 16}) (record { ceiling = (omega arith, omega arith); notes = (omega arith, omega arith); tempo = (omega arith, omega arith) })

-- and that is kept
pub kept-is : (orchestra : List ℕ) → first_in_use (setup orchestra) ≡ set_at_start ceiling
unfolding reading.found_in reading.behind_length reading.of_version reading.judged_of reading.within_of
kept-is orchestra = refl

-- ---- calls that set nothing

abbrev pub SetsNothing : {P : Type 0} → Transition P → Type 0
SetsNothing m = (k : InUse) → set_by k m.call ≡ k

both : {A : Type 0} (b : Bool) {x y z : A} → x ≡ z → y ≡ z → cond b x y ≡ z
both true e f = e
both false e f = f

module _ {P : Type 0} where
  stays : (k : InUse) (m : Transition P) → SetsNothing m → set_with k m ≡ k
  stays k m e = both (is_zero m.after.answers) (e k) refl

  unset : (k : InUse) (ms : List (Transition P)) → All SetsNothing ms → (n : ℕ) → set_at k ms n ≡ k
  unfolding set_at
  unset k [] a n = refl
  unset k (m ∷ ms) a zero = both (numbered m.call) refl (unset (set_with k m) ms a.1 zero ∙ stays k m a.0)
  unset k (m ∷ ms) a (suc n) = both (numbered m.call) (unset k ms a.1 n) (unset (set_with k m) ms a.1 (suc n) ∙ stays k m a.0)

-- what holds with the settings of the fresh start in every cycle holds with those by the calls, and the other way
module _ (orchestra : List ℕ) {P : Type 0} (ms : List (Transition P)) (a : All SetsNothing ms) (R : Float → (ℕ → Settings) → Type 0) where
  same : settings (setup orchestra) ms ≡ fixed ceiling
  same = λ i n. in_force chosen ((unset (first_in_use (setup orchestra)) ms a n ∙ kept-is orchestra) i)

  start-same : starting_tempo (first_in_use (setup orchestra)) ≡ start
  start-same = ap starting_tempo (kept-is orchestra)

  pub by-calls : R start (fixed ceiling) → R (starting_tempo (first_in_use (setup orchestra))) (settings (setup orchestra) ms)
  by-calls r = subst⁻¹ (λ (t : Float). R t (settings (setup orchestra) ms)) start-same (subst⁻¹ (R start) same r)

  pub as-fixed : R (starting_tempo (first_in_use (setup orchestra))) (settings (setup orchestra) ms) → R start (fixed ceiling)
  as-fixed r = subst (R start) same (subst (λ (t : Float). R t (settings (setup orchestra) ms)) start-same r)
