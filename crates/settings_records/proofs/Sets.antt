-- What changes and undos that are taken set, for callers: it is valid, and it is what the record says that was handed in, or that is then the last.
use mathlib.Core.Path.{◌≡◌, refl, sym, ap, ◌∙◌, subst}
use mathlib.Core.Bool.{true, true≢false}
use mathlib.Core.List.{List}
use Prim.Native.Nat.{ℕ, suc, ◌+◌, ◌-◌}
use native.Mathlib.Omega.{arith}
use Rattle.base_laws.proofs.Choice.{cond-true}
use Rattle.base_answer.specs.Numbers.{is_taken}
use Rattle.settings_records.specs.Form.{Found}
use Rattle.settings_records.specs.declared.InUse.{InUse}
use Rattle.base_answer.specs.declared.Answered.{Answered}
use Rattle.settings_records.specs.Form.{Valid, Parses, cut_length, cut_record, length_zero, other_version, wrong_length, bad_number, valid, next, ParsesRecords, all_valid, first_fault}
use Rattle.settings_records.specs.inside.Reading.{found_in, records_in}
use Rattle.settings_records.specs.Changes.{in_use, change_of, undo_of}
use Rattle.settings_records.proofs.Changing.{change-joins}
use Rattle.settings_records.proofs.Meaning.{every-record}
use Rattle.settings_records.proofs.Areas.{fault-is, every-area, one_fewer}
use Rattle.settings_records.proofs.Stack.{changed-taken, undone}

said-valid : {bs : List ℕ} {f : Found} → Parses bs f → is_taken f.answer ≡ true → Valid f.setting
said-valid (cut_length h) t = absurd (true≢false (sym t))
said-valid (cut_record l) t = absurd (true≢false (sym t))
said-valid (length_zero z) t = absurd (true≢false (sym t))
said-valid (other_version body r e n₁ n₂) t = absurd (true≢false (sym t))
said-valid (wrong_length body r e k bad) t = absurd (true≢false (sym t))
said-valid (bad_number r e b bad) t = absurd (true≢false (sym t))
said-valid (valid r e b l) t = l

pub found-valid : (bs : List ℕ) → is_taken (found_in bs).answer ≡ true → Valid (found_in bs).setting
found-valid bs t = said-valid (every-record bs) t

-- of one record in use or more
records-valid : {n : ℕ} {area : List ℕ} {f : Found} → ParsesRecords (suc n) area f → is_taken f.answer ≡ true → Valid f.setting
records-valid (all_valid rest (next r i)) t = said-valid i refl
records-valid (first_fault r h i) t = absurd (true≢false (sym t ∙ fault-is i refl))

-- ---- what is in use afterwards

pub change-sets : (k : InUse) (area handed : List ℕ) → is_taken (change_of k area handed).answer ≡ true → (change_of k area handed).left ≡ in_use (k.count + 1) (found_in handed).setting
unfolding change_of
change-sets k area handed t =
    let c = changed-taken k area handed t in
    ap (λ (x : Answered InUse). x.left) (cond-true _ _ c) ∙ ap (λ (x : Found). in_use (k.count + 1) x.setting) (change-joins k.count area handed c).gives

pub change-valid : (k : InUse) (area handed : List ℕ) → is_taken (change_of k area handed).answer ≡ true → Valid (found_in handed).setting
change-valid k area handed t =
    found-valid handed (ap (λ (x : Found). is_taken x.answer) (change-joins k.count area handed (changed-taken k area handed t)).new)

pub undo-sets : (k : InUse) (area : List ℕ) → is_taken (undo_of k area).answer ≡ true → (undo_of k area).left ≡ in_use (k.count - 1) (records_in (k.count - 1) area).setting
undo-sets k area t = (undone k area t).gives

-- the records that are then in use
pub undo-fewer : (k : InUse) (area : List ℕ) → is_taken (undo_of k area).answer ≡ true → is_taken (records_in (k.count - 1) area).answer ≡ true
undo-fewer k area t =
    let u = undone k area t in
    let n : k.count ≡ suc (k.count - 1) = omega (arith, u.several) in
    one_fewer (subst (λ (m : ℕ). ParsesRecords m area (records_in m area)) n (every-area k.count area))
    (subst (λ (m : ℕ). is_taken (records_in m area).answer ≡ true) n u.stands)

pub undo-valid : (k : InUse) (area : List ℕ) → is_taken (undo_of k area).answer ≡ true → Valid (records_in (k.count - 1) area).setting
undo-valid k area t =
    let n : k.count - 1 ≡ suc (k.count - 2) = omega (arith, (undone k area t).several) in
    records-valid (subst (λ (m : ℕ). ParsesRecords m area (records_in (k.count - 1) area)) n (every-area (k.count - 1) area)) (undo-fewer k area t)
