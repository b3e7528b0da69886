-- The first record of a fresh start.
use mathlib.Core.Path.{◌≡◌, refl, ap, ◌∙◌}
use mathlib.Core.Bool.{true}
use Prim.Native.Nat.{ℕ, ◌-◌, ◌≤◌}
use native.Mathlib.Omega.{arith}
use lib.ListN.{length}
use borrow.Author.Tests.{eq-eqb, le-ltb}
use Rattle.base_answer.specs.Numbers.{is_taken}
use Rattle.orchestra_syntax.specs.Tree.{Instrument}
use mathlib.Core.List.{List}
use Rattle.settings_records.specs.Form.{Valid, first, second, Parses, cut_length, cut_record, length_zero, other_version, wrong_length, bad_number, valid, found}
use Rattle.settings_records.specs.inside.Reading.{found_in, walked}
use Rattle.settings_records.specs.Changes.{area_bytes, none_in_use, changing, joining, change_of}
use Rattle.settings_records.specs.Form.{Found}
use Rattle.settings_records.specs.declared.Setting.{Setting}
use Rattle.base_answer.specs.declared.Answered.{Answered}
use Rattle.settings_records.proofs.Meaning.{one-meaning}
use Rattle.settings_records.proofs.Sets.{change-sets, found-valid}
use Rattle.player_model.proofs.Lists.{cond-true, cond-false}
use Rattle.panel_claims.specs.Fresh.{Setup}
use Rattle.panel_claims.specs.Claims.{Given, first_in_use}
use Rattle.settings_records.specs.declared.InUse.{InUse}

-- it is taken, and it is what is set
pub record FirstTaken (u : Setup) : Type 0 where
  pub taken : is_taken (change_of none_in_use u.area u.first).answer ≡ true
  pub keeps : (change_of none_in_use u.area u.first).left ≡ first_in_use u
  pub valid : Valid (first_in_use u).last

-- a record has at most eight bytes
pub content-small : {bs : List ℕ} {f : Found} → Parses bs f → is_taken f.answer ≡ true → f.size ≤ 8
content-small (cut_length h) t = omega arith
content-small (cut_record l) t = omega arith
content-small (length_zero z) t = omega arith
content-small (other_version body r e n₁ n₂) t = omega arith
content-small (wrong_length body r e k bad) t = omega arith
content-small (bad_number r e b bad) t = omega arith
content-small (valid r e first l) t = omega arith
content-small (valid r e second l) t = omega arith

pub whole-taken : (area handed : List ℕ) (set : Setting) → length area ≡ area_bytes → found_in handed ≡ found set (length handed) → length handed ≤ 8
    → is_taken (change_of none_in_use area handed).answer ≡ true
unfolding change_of changing joining walked
whole-taken area handed set h f small =
    let j : is_taken (changing 0 area handed).answer ≡ true =
    ap (λ (x : Found). is_taken x.answer) (cond-true _ _ (eq-eqb (length area) area_bytes h)
    ∙ ap (joining 0 handed) f
    ∙ cond-false _ _ (le-ltb (length handed) (length handed) (omega arith))
    ∙ cond-false _ _ (le-ltb (area_bytes - 0) (length handed) (omega arith))) in
    ap (λ (x : Answered InUse). is_taken x.answer) (cond-true _ _ j)

pub first_taken : (u : Setup) (is : List Instrument) → Given u is → FirstTaken u
first_taken u is g = record { taken = taken; keeps = change-sets none_in_use u.area u.first taken; valid = found-valid u.first (ap (λ (x : Found). is_taken x.answer) f) }
  where
    f : found_in u.first ≡ found g.set (length u.first)
    f = one-meaning u.first _ g.first

    taken : is_taken (change_of none_in_use u.area u.first).answer ≡ true
    taken = whole-taken u.area u.first g.set g.whole f (content-small g.first refl)
