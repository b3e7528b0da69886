-- Laws for the loop that looks for an instrument, one for each way through it.
use mathlib.Core.Path.{◌≡◌, refl, sym, ap, ◌∙◌}
use mathlib.Core.Bool.{true, false}
use mathlib.Core.List.{List, [], ◌∷◌}
use Prim.Native.Nat.{ℕ, zero, suc, ◌+◌, ◌≤◌, ◌<◌, min}
use native.Mathlib.Omega.{arith}
use native.Mathlib.Numerals.{add-one}
use native.Mathlib.Nat.{le_of_suc-le-suc}
use lib.Dec.{eqb}
use lib.ListN.{length, take, drop, get_or, length-take}
use lib.Seq.{drop-cons, get_or-take}
use Rattle.base_laws.proofs.Choice.{cond-true, cond-false}
use Rattle.std.specs.Prelude.{Option, Some, None}
use Rattle.code_program.specs.InstrumentTable.{lookup_in}
use Rattle.code_program.specs.declared.Instrument.{Instrument}

-- ---- the instrument with a name, among those from i on

module _ (name : ℕ) (l : List Instrument) (r : Option Instrument) where
  pub found-no : (i : ℕ) (d : Instrument) → i < length l → eqb (get_or l i d).name name ≡ false
      → lookup_in name (drop i l) ≡ r → lookup_in name (drop (i + 1) l) ≡ r
  unfolding lookup_in
  found-no i d h e q =
      rw add-one (sym (cond-false _ _ e) ∙ ap (lookup_in name) (sym (drop-cons l i d h)) ∙ q)

  pub found-yes : (i : ℕ) (d : Instrument) → i < length l → eqb (get_or l i d).name name ≡ true
      → lookup_in name (drop i l) ≡ r → Some (get_or l i d) ≡ r
  unfolding lookup_in
  found-yes i d h e q = sym (cond-true _ _ e) ∙ ap (lookup_in name) (sym (drop-cons l i d h)) ∙ q

  pub found-end : (i : ℕ) → length l ≤ i → lookup_in name (drop i l) ≡ r → None ≡ r
  unfolding lookup_in
  found-end i h q = ap (lookup_in name) (sym (none i l h)) ∙ q
    where
      none : (i : ℕ) (l : List Instrument) → length l ≤ i → drop i l ≡ []
      none zero [] h = refl
      none zero (x ∷ xs) h = absurd (omega arith)
      none (suc i) [] h = refl
      none (suc i) (x ∷ xs) h = none i xs (le_of_suc-le-suc h)

-- ---- a loop up to a count that stays within the array

module _ {A : Type 0} (l : List A) (n most w i : ℕ) (long : length l ≡ most) (is : w ≡ min n most) (h : i < w) where
  pub in_take : i < length (take n l)
  in_take = omega (arith, length-take n l)

  pub get_take : (d : A) → get_or (take n l) i d ≡ get_or l i d
  get_take d = get_or-take n l i d (omega arith)
