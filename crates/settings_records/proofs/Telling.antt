-- What was found as it is told: a `Result`, and each way through the functions that give one.
use mathlib.Core.Path.{◌≡◌, refl, sym, ap, ◌∙◌, subst}
use mathlib.Core.Bool.{Bool, true, false, cond}
use mathlib.Core.List.{List}
use Prim.Native.Nat.{ℕ, suc, ◌+◌, ◌*◌, ◌-◌, ◌≤◌, ◌<◌}
use native.Mathlib.Omega.{arith}
use lib.ListN.{length, take, drop}
use Rattle.std.specs.Prelude.{Result, Ok, Err}
use Rattle.base_laws.proofs.Choice.{cond-true, cond-false}
use Rattle.base_answer.specs.Numbers.{is_taken}
use Rattle.base_answer.specs.declared.Answer.{Answer}
use Rattle.base_answer.specs.declared.Answer.TheVariants.{Taken, NoRoom, LeftOver, NothingToUndo}
use Rattle.settings_records.specs.declared.Setting.{Setting}
use Rattle.settings_records.specs.declared.InUse.{InUse}
use Rattle.settings_records.specs.Form.{Found, told, refused_as, ParsesRecords}
use Rattle.settings_records.specs.inside.Reading.{found_in, records_in}
use Rattle.settings_records.specs.Changes.{laid_at, changing, in_use, changed, change_of, area_changed, undo_of}
use Rattle.settings_records.proofs.Changing.{other-length, used-fault, used-size, new-fault, left-over, no-room, goes_in, change-refused, change-room, change-few, change-taken, undo-fault, undo-nothing, undo-taken}
use Rattle.settings_records.proofs.Walk.{Walking, walk-read, walk-fault, walk-size, walk-next}
use Rattle.settings_records.proofs.Areas.{every-area, one_fewer}

pub record IsTold (f : Found) (s : Setting) (n : ℕ) : Type 0 where
  pub taken : is_taken f.answer ≡ true
  pub setting : f.setting ≡ s
  pub size : f.size ≡ n

pub told-ok : (f : Found) {s : Setting} {n : ℕ} → told f ≡ Ok (s, n) → IsTold f s n
told-ok f {s} {n} e = go (is_taken f.answer) refl e
  where
    go : (b : Bool) → is_taken f.answer ≡ b → cond {A = Result (Setting × ℕ) Answer} b (Ok (f.setting, f.size)) (Err f.answer) ≡ Ok (s, n) → IsTold f s n
    go true t h =
        let p : (f.setting, f.size) ≡ (s, n) = cc in
        record { taken = t; setting = ap (λ (x : Setting × ℕ). x.0) p; size = ap (λ (x : Setting × ℕ). x.1) p }
    go false t h = cc

pub told-err : (f : Found) {a : Answer} → told f ≡ Err a → (is_taken f.answer ≡ false) × (f.answer ≡ a)
told-err f {a} e = go (is_taken f.answer) refl e
  where
    go : (b : Bool) → is_taken f.answer ≡ b → cond {A = Result (Setting × ℕ) Answer} b (Ok (f.setting, f.size)) (Err f.answer) ≡ Err a → (is_taken f.answer ≡ false) × (f.answer ≡ a)
    go true t h = cc
    go false t h = (t, cc)

-- what is found is told
pub told_as : (g f : Found) → g ≡ f → told g ≡ told f
told_as g f e = ap told e

-- a refusal that is found is told
pub told-refused : (f : Found) {g : Found} {a : Answer} → told f ≡ Err a → refused_as f.answer ≡ g → Err a ≡ told g
told-refused f {g} {a} e q =
    let t = told-err f e in
    ap Err (sym t.1) ∙ sym (cond-false _ _ t.0) ∙ ap told q

-- ---- the walk

module _ {area : List ℕ} {used at : ℕ} {last : Setting} {n : ℕ} (w : Walking area used at last n) (h : n < used) {r : Result (Setting × ℕ) Answer}
    (e : r ≡ told (found_in (take (length area - at) (drop at area)))) where
  here : r ≡ told (found_in (drop at area))
  here = e ∙ ap told (walk-read w h)

  pub told-walk-fault : {a : Answer} → r ≡ Err a → Err a ≡ told (records_in used area)
  told-walk-fault o =
      let t = told-err (found_in (drop at area)) (sym here ∙ o) in
      told-refused (found_in (drop at area)) (sym here ∙ o) (walk-fault w h t.0)

  module _ {s : Setting} {m : ℕ} (o : r ≡ Ok (s, m)) where
    g : IsTold (found_in (drop at area)) s m
    g = told-ok (found_in (drop at area)) (sym here ∙ o)

    pub told-walk-size : (6 ≤ m) × (at + m ≤ length area)
    told-walk-size = let z = walk-size w h g.taken in omega (arith, g.size)

    pub told-walk-next : Walking area used (at + m) s (n + 1)
    told-walk-next = subst (λ (x : ℕ). Walking area used (at + x) s (n + 1)) g.size (subst (λ (x : Setting). Walking area used (at + (found_in (drop at area)).size) x (n + 1)) g.setting (walk-next w h g.taken))

-- ---- judging a change

module _ (used : ℕ) (area handed : List ℕ) where
  abbrev change_told : Result (Setting × ℕ) Answer
  change_told = told (changing used area handed)

  pub told-length : (length area ≡ 4096 → ⊥) → Err NoRoom ≡ change_told
  told-length h = ap told (other-length used area handed h refl)

  module _ (h : length area ≡ 4096) {r : Result (Setting × ℕ) Answer} (e : r ≡ told (records_in used area)) where
    pub told-used-fault : {a : Answer} → r ≡ Err a → Err a ≡ change_told
    told-used-fault o =
        let t = told-err (records_in used area) (sym e ∙ o) in
        told-refused (records_in used area) (sym e ∙ o) (used-fault used area handed h refl (sym t.0) refl refl)

    module _ {s : Setting} {m : ℕ} (o : r ≡ Ok (s, m)) where
      w : IsTold (records_in used area) s m
      w = told-ok (records_in used area) (sym e ∙ o)

      pub told-used-size : m ≤ 4096
      told-used-size = omega (arith, w.size, used-size used area handed h refl (sym w.taken) refl)

      module _ {q : Result (Setting × ℕ) Answer} (e₂ : q ≡ told (found_in handed)) where
        pub told-new-fault : {a : Answer} → q ≡ Err a → Err a ≡ change_told
        told-new-fault o₂ =
            let t = told-err (found_in handed) (sym e₂ ∙ o₂) in
            told-refused (found_in handed) (sym e₂ ∙ o₂) (new-fault used area handed h refl (sym w.taken) refl refl (sym t.0) refl refl)

        module _ {s₂ : Setting} {m₂ : ℕ} (o₂ : q ≡ Ok (s₂, m₂)) where
          f : IsTold (found_in handed) s₂ m₂
          f = told-ok (found_in handed) (sym e₂ ∙ o₂)

          pub told-left-over : m₂ < length handed → Err LeftOver ≡ change_told
          told-left-over l = ap told (left-over used area handed h refl (sym w.taken) refl refl (sym f.taken) refl (omega (arith, f.size)) refl)

          module _ (l : length handed ≤ m₂) where
            pub told-no-room : 4096 - m < m₂ → Err NoRoom ≡ change_told
            told-no-room b =
                ap told (no-room used area handed h refl (sym w.taken) refl refl (sym f.taken) refl (omega (arith, f.size)) (omega (arith, f.size, w.size)) refl)

            pub told-goes-in : m₂ ≤ 4096 - m → Ok (s₂, m) ≡ change_told
            told-goes-in b =
                (λ i. Ok (sym f.setting i, sym w.size i))
                ∙ ap told (goes_in used area handed h refl (sym w.taken) refl refl (sym f.taken) refl (omega (arith, f.size)) (omega (arith, f.size, w.size)))

-- ---- a change

module _ (k : InUse) (area handed : List ℕ) {r : Result (Setting × ℕ) Answer} (e : r ≡ told (changing k.count area handed)) where
  pub told-change-refused : {a : Answer} → r ≡ Err a → (changed k a ≡ change_of k area handed) × (area ≡ area_changed k.count area handed)
  told-change-refused o =
      let t = told-err (changing k.count area handed) (sym e ∙ o) in
      let p = change-refused k area handed refl (sym t.0) refl in
      (ap (changed k) (sym t.1) ∙ p.0, p.1)

  module _ {s : Setting} {m : ℕ} (o : r ≡ Ok (s, m)) where
    j : IsTold (changing k.count area handed) s m
    j = told-ok (changing k.count area handed) (sym e ∙ o)

    pub told-change-room : m + length handed ≤ length area
    told-change-room = omega (arith, j.size, change-room k area handed refl (sym j.taken) refl)

    pub told-change-few : 6 * k.count ≤ 4096
    told-change-few = change-few k area handed refl (sym j.taken) refl

    pub told-change-taken : {left : List ℕ} → left ≡ laid_at m handed area
        → (changed (in_use (k.count + 1) s) Taken ≡ change_of k area handed) × (left ≡ area_changed k.count area handed)
    told-change-taken q =
        let p = change-taken k area handed refl (sym j.taken) refl (q ∙ ap (λ (x : ℕ). laid_at x handed area) (sym j.size)) in
        (ap (λ (x : Setting). changed (in_use (k.count + 1) x) Taken) (sym j.setting) ∙ p.0, p.1)

-- ---- an undo

module _ (k : InUse) (area : List ℕ) (h : length area ≡ 4096) {r : Result (Setting × ℕ) Answer} (e : r ≡ told (records_in k.count area)) where
  pub told-undo-fault : {a : Answer} → r ≡ Err a → changed k a ≡ undo_of k area
  told-undo-fault o =
      let t = told-err (records_in k.count area) (sym e ∙ o) in
      ap (changed k) (sym t.1) ∙ undo-fault k area h refl (sym t.0) refl

  module _ {x : Setting × ℕ} (o : r ≡ Ok x) where
    u : is_taken (records_in k.count area).answer ≡ true
    u = (told-ok (records_in k.count area) (sym e ∙ o)).taken

    pub told-undo-nothing : k.count < 2 → changed k NothingToUndo ≡ undo_of k area
    told-undo-nothing l = undo-nothing k area h refl (sym u) refl l

    module _ (l : 2 ≤ k.count) where
      -- the records that are left in use are whole
      pub told-fewer : told (records_in (k.count - 1) area) ≡ Ok ((records_in (k.count - 1) area).setting, (records_in (k.count - 1) area).size)
      told-fewer =
          let n : k.count ≡ suc (k.count - 1) = omega arith in
          cond-true _ _ (one_fewer (subst (λ (m : ℕ). ParsesRecords m area (records_in m area)) n (every-area k.count area))
          (subst (λ (m : ℕ). is_taken (records_in m area).answer ≡ true) n u))

      pub told-undo-taken : {q : Result (Setting × ℕ) Answer} {s : Setting} {m : ℕ} → q ≡ told (records_in (k.count - 1) area) → q ≡ Ok (s, m)
          → changed (in_use (k.count - 1) s) Taken ≡ undo_of k area
      told-undo-taken e₂ o₂ =
          ap (λ (x : Setting). changed (in_use (k.count - 1) x) Taken) (sym (told-ok (records_in (k.count - 1) area) (sym e₂ ∙ o₂)).setting)
          ∙ undo-taken k area h refl (sym u) refl l refl
