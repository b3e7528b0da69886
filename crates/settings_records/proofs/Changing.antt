-- Changes and undos: each way through them, and what a change that is taken finds.
use mathlib.Core.Path.{◌≡◌, refl, sym, ap, ◌∙◌}
use mathlib.Core.Bool.{Bool, true, false, not, cond, true≢false}
use mathlib.Core.List.{List}
use Prim.Native.Nat.{ℕ, ◌+◌, ◌*◌, ◌-◌, ◌≤◌, ◌<◌}
use native.Mathlib.Omega.{arith}
use lib.Dec.{ltb, eqb}
use lib.ListN.{length}
use borrow.Author.Tests.{not-true, not-false, eqb-true, ltb-false, eq-eqb, ne_eqb, lt-ltb, le-ltb}
use Rattle.base_laws.proofs.Choice.{cond-true, cond-false}
use Rattle.base_answer.specs.Numbers.{is_taken}
use Rattle.base_answer.specs.declared.Answer.{Answer}
use Rattle.base_answer.specs.declared.Answer.TheVariants.{Taken, NoRoom, LeftOver, NothingToUndo}
use Rattle.settings_records.specs.Form.{Found}
use Rattle.settings_records.specs.declared.InUse.{InUse}
use Rattle.settings_records.specs.Form.{found, refused_as}
use Rattle.settings_records.specs.inside.Reading.{found_in, records_in}
use Rattle.settings_records.specs.Changes.{area_bytes, laid_at, joining, changing, in_use, changed, change_of, area_changed, undo_of}
use Rattle.settings_records.proofs.Walk.{found-fits, records-end}

-- ---- judging a change

module _ (used : ℕ) (area handed : List ℕ) where
  pub other-length : {r : Found} → (length area ≡ 4096 → ⊥) → r ≡ refused_as NoRoom → r ≡ changing used area handed
  unfolding changing
  other-length h q = q ∙ sym (cond-false _ _ (ne_eqb (length area) 4096 h))

  module _ (h : length area ≡ 4096) {w : Found} (e : w ≡ records_in used area) {t : Bool} (u : t ≡ is_taken w.answer) where
    pub used-fault : {r : Found} → not t ≡ true → r ≡ refused_as w.answer → r ≡ changing used area handed
    unfolding changing
    used-fault v q =
        q ∙ ap (λ (x : Found). refused_as x.answer) e
        ∙ sym (cond-true _ _ (eq-eqb (length area) 4096 h) ∙ cond-false _ _ (ap (λ (x : Found). is_taken x.answer) (sym e) ∙ sym u ∙ not-true t v))

    module _ (v : not t ≡ false) where
      used-taken : is_taken (records_in used area).answer ≡ true
      used-taken = ap (λ (x : Found). is_taken x.answer) (sym e) ∙ sym u ∙ not-false t v

      pub used-size : w.size ≤ 4096
      used-size = omega (arith, h, (records-end used area used-taken).most, ap (λ (x : Found). x.size) e)

      module _ {f : Found} (e₂ : f ≡ found_in handed) where
        joins : joining w.size handed f ≡ changing used area handed
        unfolding changing
        joins =
            (λ i. joining (e i).size handed (e₂ i)) ∙ sym (cond-true _ _ (eq-eqb (length area) 4096 h) ∙ cond-true _ _ used-taken)

        module _ {t₂ : Bool} (u₂ : t₂ ≡ is_taken f.answer) where
          pub new-fault : {r : Found} → not t₂ ≡ true → r ≡ refused_as f.answer → r ≡ changing used area handed
          unfolding joining
          new-fault v₂ q = q ∙ sym (cond-false _ _ (sym u₂ ∙ not-true t₂ v₂)) ∙ joins

          module _ (v₂ : not t₂ ≡ false) where
            pub left-over : {r : Found} → f.size < length handed → r ≡ refused_as LeftOver → r ≡ changing used area handed
            unfolding joining
            left-over l q = q ∙ sym (cond-true _ _ (sym u₂ ∙ not-false t₂ v₂) ∙ cond-true _ _ (lt-ltb f.size (length handed) l)) ∙ joins

            module _ (l : length handed ≤ f.size) where
              pub no-room : {r : Found} → 4096 - w.size < f.size → r ≡ refused_as NoRoom → r ≡ changing used area handed
              unfolding joining
              no-room m q =
                  q ∙ sym (cond-true _ _ (sym u₂ ∙ not-false t₂ v₂) ∙ cond-false _ _ (le-ltb f.size (length handed) l)
                  ∙ cond-true _ _ (lt-ltb (4096 - w.size) f.size m)) ∙ joins

              pub goes_in : f.size ≤ 4096 - w.size → found f.setting w.size ≡ changing used area handed
              unfolding joining
              goes_in m =
                  sym (cond-true _ _ (sym u₂ ∙ not-false t₂ v₂) ∙ cond-false _ _ (le-ltb f.size (length handed) l)
                  ∙ cond-false _ _ (le-ltb (4096 - w.size) f.size m)) ∙ joins

-- ---- what a change that is taken finds

then-taken : (b : Bool) (x y : Found) → is_taken y.answer ≡ false → is_taken (cond b x y).answer ≡ true → (b ≡ true) × (is_taken x.answer ≡ true)
then-taken true x y e t = (refl, t)
then-taken false x y e t = absurd (true≢false (sym t ∙ e))

else-taken : (b : Bool) (x y : Found) → is_taken x.answer ≡ false → is_taken (cond b x y).answer ≡ true → (b ≡ false) × (is_taken y.answer ≡ true)
else-taken true x y e t = absurd (true≢false (sym t ∙ e))
else-taken false x y e t = (refl, t)

-- an answer that was no other
taken_then : (a : Answer) (x : Found) → is_taken (cond (is_taken a) x (refused_as a)).answer ≡ true → (is_taken a ≡ true) × (is_taken x.answer ≡ true)
taken_then a x t = go (is_taken a) refl t
  where
    go : (b : Bool) → is_taken a ≡ b → is_taken (cond b x (refused_as a)).answer ≡ true → (is_taken a ≡ true) × (is_taken x.answer ≡ true)
    go true e t = (e, t)
    go false e t = absurd (true≢false (sym t ∙ e))

pub record Joins (used : ℕ) (area handed : List ℕ) : Type 0 where
  pub whole : length area ≡ 4096
  pub stands : is_taken (records_in used area).answer ≡ true
  pub new : found_in handed ≡ found (found_in handed).setting (length handed)
  pub room : (records_in used area).size + length handed ≤ 4096
  pub gives : changing used area handed ≡ found (found_in handed).setting (records_in used area).size

pub change-joins : (used : ℕ) (area handed : List ℕ) → is_taken (changing used area handed).answer ≡ true → Joins used area handed
unfolding changing joining
change-joins used area handed t =
    let w = records_in used area in
    let f = found_in handed in
    let a = then-taken (eqb (length area) area_bytes) _ _ refl t in
    let b = taken_then w.answer _ a.1 in
    let c = taken_then f.answer _ b.1 in
    let d = else-taken (ltb f.size (length handed)) _ _ refl c.1 in
    let g = else-taken (ltb (area_bytes - w.size) f.size) _ _ refl d.1 in
    let fits = found-fits handed in
    let whole : length area ≡ 4096 = eqb-true (length area) area_bytes a.0 in
    let long : f.size ≡ length handed = omega (arith, ltb-false f.size (length handed) d.0, fits.most c.0) in
    record {
      whole = whole;
      stands = b.0;
      new = fits.shape c.0 ∙ ap (found f.setting) long;
      room = omega (arith, long, whole, ltb-false (area_bytes - w.size) f.size g.0, (records-end used area b.0).most);
      gives = cond-true _ _ a.0 ∙ cond-true _ _ b.0 ∙ cond-true _ _ c.0 ∙ cond-false _ _ d.0 ∙ cond-false _ _ g.0;
    }

-- ---- a change

module _ (k : InUse) (area handed : List ℕ) {j : Found} (e : j ≡ changing k.count area handed) {t : Bool} (u : t ≡ is_taken j.answer) where
  is : is_taken (changing k.count area handed).answer ≡ t
  is = ap (λ (x : Found). is_taken x.answer) (sym e) ∙ sym u

  pub change-refused : not t ≡ true → (changed k j.answer ≡ change_of k area handed) × (area ≡ area_changed k.count area handed)
  unfolding change_of area_changed
  change-refused v =
      let f = is ∙ not-true t v in
      (ap (λ (x : Found). changed k x.answer) e ∙ sym (cond-false _ _ f), sym (cond-false _ _ f))

  module _ (v : not t ≡ false) where
    inside : Joins k.count area handed
    inside = change-joins k.count area handed (is ∙ not-false t v)

    at_size : j.size ≡ (records_in k.count area).size
    at_size = ap (λ (x : Found). x.size) (e ∙ inside.gives)

    pub change-room : j.size + length handed ≤ length area
    change-room = omega (arith, inside.room, inside.whole, at_size)

    pub change-few : 6 * k.count ≤ 4096
    change-few = omega (arith, inside.whole, (records-end k.count area inside.stands).least, (records-end k.count area inside.stands).most)

    pub change-taken : {left : List ℕ} → left ≡ laid_at j.size handed area
        → (changed (in_use (k.count + 1) j.setting) Taken ≡ change_of k area handed) × (left ≡ area_changed k.count area handed)
    unfolding change_of area_changed
    change-taken q =
        let f = is ∙ not-false t v in (
          ap (λ (x : Found). changed (in_use (k.count + 1) x.setting) Taken) e ∙ sym (cond-true _ _ f),
          q ∙ ap (λ (x : Found). laid_at x.size handed area) e ∙ sym (cond-true _ _ f),
        )

-- ---- an undo

module _ (k : InUse) (area : List ℕ) where
  pub undo-length : (length area ≡ 4096 → ⊥) → changed k NoRoom ≡ undo_of k area
  unfolding undo_of
  undo-length h = sym (cond-false _ _ (ne_eqb (length area) 4096 h))

  module _ (h : length area ≡ 4096) {w : Found} (e : w ≡ records_in k.count area) {t : Bool} (u : t ≡ is_taken w.answer) where
    stands : is_taken (records_in k.count area).answer ≡ t
    stands = ap (λ (x : Found). is_taken x.answer) (sym e) ∙ sym u

    pub undo-fault : not t ≡ true → changed k w.answer ≡ undo_of k area
    unfolding undo_of
    undo-fault v =
        ap (λ (x : Found). changed k x.answer) e ∙ sym (cond-true _ _ (eq-eqb (length area) 4096 h) ∙ cond-false _ _ (stands ∙ not-true t v))

    module _ (v : not t ≡ false) where
      pub undo-nothing : k.count < 2 → changed k NothingToUndo ≡ undo_of k area
      unfolding undo_of
      undo-nothing l = sym (cond-true _ _ (eq-eqb (length area) 4096 h) ∙ cond-true _ _ (stands ∙ not-false t v) ∙ cond-true _ _ (lt-ltb k.count 2 l))

      pub undo-taken : 2 ≤ k.count → {b : Found} → b ≡ records_in (k.count - 1) area → changed (in_use (k.count - 1) b.setting) Taken ≡ undo_of k area
      unfolding undo_of
      undo-taken l q =
          ap (λ (x : Found). changed (in_use (k.count - 1) x.setting) Taken) q
          ∙ sym (cond-true _ _ (eq-eqb (length area) 4096 h) ∙ cond-true _ _ (stands ∙ not-false t v) ∙ cond-false _ _ (le-ltb k.count 2 l))
