-- Over one area that nobody else writes, the settings are those of the last record taken and not undone; refusals change nothing.
use mathlib.Core.Path.{◌≡◌, refl, sym, ap, ◌∙◌, subst, subst⁻¹}
use mathlib.Core.Bool.{Bool, true, false, cond, true≢false}
use mathlib.Core.List.{List, [], ◌∷◌, ◌++◌, append_assoc}
use Prim.Native.Nat.{ℕ, ◌+◌, ◌-◌, ◌≤◌}
use native.Mathlib.Omega.{arith}
use lib.Dec.{ltb, eqb}
use lib.ListN.{length, drop}
use lib.Seq.{take-append_seam, drop-append-add}
use borrow.Author.Tests.{ltb-false}
use Rattle.base_laws.proofs.Choice.{cond-true, cond-false}
use Rattle.base_answer.specs.Numbers.{is_taken}
use Rattle.base_answer.specs.declared.Answer.TheVariants.{Taken, NoRoom, NothingToUndo}
use Rattle.settings_records.specs.declared.Setting.{Setting}
use Rattle.settings_records.specs.Form.{Found}
use Rattle.settings_records.specs.declared.InUse.{InUse}
use Rattle.base_answer.specs.declared.Answered.{Answered}
use Rattle.settings_records.specs.Form.{setting, found, Parses, IsRecord, Records, none, next}
use Rattle.settings_records.specs.inside.Reading.{found_in, records_in}
use Rattle.settings_records.specs.Changes.{area_bytes, laid_at, changing, in_use, changed, none_in_use, change_of, area_changed, undo_of}
use Rattle.settings_records.specs.Claims.{RefusedChange, RefusedUndo, Step, change, undo, Store, answer_to, after_step, after_steps, taken_of, standing, LastSets, AsStanding, LastStanding}
use Rattle.settings_records.proofs.Changing.{change-joins}
use Rattle.settings_records.proofs.Meaning.{every-record}
use Rattle.settings_records.proofs.Areas.{records-found}

-- ---- records that stand one after another, the last one first

-- what each of them sets
Each : List (List ℕ) → Type 0
Each [] = Unit {0}
Each (b ∷ records) = ((s : Setting) × IsRecord b s) × Each records

laid : List (List ℕ) → List ℕ
laid [] = []
laid (b ∷ records) = laid records ++ b

-- what the last of them sets
last_setting : (records : List (List ℕ)) → Each records → Setting
unfolding Each
last_setting [] e = setting 0 0 0
last_setting (b ∷ records) e = e.0.0

last-sets : (records : List (List ℕ)) (e : Each records) → LastSets records (last_setting records e)
unfolding Each last_setting
last-sets [] e = refl
last-sets (b ∷ records) e = e.0.1

are-records : (records : List (List ℕ)) (e : Each records) → Records (length records) (laid records) (last_setting records e)
unfolding Each laid last_setting
are-records [] e = none
are-records (b ∷ records) e = next (are-records records e.1) e.0.1

-- ---- what is in use, beside the area

record Stands (records : List (List ℕ)) (l : Store) : Type 0 where
  rest : List ℕ
  area : l.area ≡ laid records ++ rest
  count : l.settings.count ≡ length records
  all : Each records
  settings : l.settings.last ≡ last_setting records all

-- where the records end
records-there : {records : List (List ℕ)} {l : Store} (s : Stands records l) → records_in l.settings.count l.area ≡ found (last_setting records s.all) (length (laid records))
records-there {records} s = (λ i. records_in (s.count i) (s.area i)) ∙ records-found (are-records records s.all) s.rest

pub changed-taken : (k : InUse) (area handed : List ℕ) → is_taken (change_of k area handed).answer ≡ true → is_taken (changing k.count area handed).answer ≡ true
unfolding change_of
changed-taken k area handed t = go (changing k.count area handed) t
  where
    go : (j : Found) → is_taken (cond (is_taken j.answer) (changed (in_use (k.count + 1) j.setting) Taken) (changed k j.answer)).answer ≡ true → is_taken j.answer ≡ true
    go j t = by (is_taken j.answer) refl t
      where
        by : (b : Bool) → is_taken j.answer ≡ b → is_taken (cond b (changed (in_use (k.count + 1) j.setting) Taken) (changed k j.answer)).answer ≡ true → is_taken j.answer ≡ true
        by true e u = e
        by false e u = u

-- bytes laid behind others that stand at the start of an area
laid-behind : (before handed rest : List ℕ) → laid_at (length before) handed (before ++ rest) ≡ before ++ handed ++ drop (length handed) rest
unfolding laid_at
laid-behind before handed rest = (λ i. take-append_seam before rest i ++ handed ++ drop-append-add before rest (length handed) i)

module _ (records : List (List ℕ)) (l : Store) (s : Stands records l) where
  -- a change that is taken
  stands-change : (handed : List ℕ) → is_taken (answer_to l (change handed)) ≡ true → Stands (handed ∷ records) (after_step l (change handed))
  unfolding change_of area_changed laid Each last_setting
  stands-change handed t =
      let c = changed-taken l.settings l.area handed t in
      let j = change-joins l.settings.count l.area handed c in
      let place : (changing l.settings.count l.area handed).size ≡ length (laid records) = ap (λ (x : Found). x.size) j.gives ∙ ap (λ (x : Found). x.size) (records-there s) in
      record {
        rest = drop (length handed) s.rest;
        area =
            cond-true _ _ c ∙ (λ i. laid_at (place i) handed (s.area i))
            ∙ laid-behind (laid records) handed s.rest;
        count = ap (λ (x : Answered InUse). x.left.count) (cond-true _ _ c) ∙ omega (arith, s.count);
        all = (((found_in handed).setting, subst (Parses handed) j.new (every-record handed)), s.all);
        settings = ap (λ (x : Answered InUse). x.left.last) (cond-true _ _ c) ∙ ap (λ (x : Found). x.setting) j.gives;
      }

-- ---- both ways of a test that is taken

module _ {A : Type 0} (f : A → Bool) (x y : A) where
  then-of : (b : Bool) → f y ≡ false → f (cond b x y) ≡ true → (b ≡ true) × (f x ≡ true)
  then-of true e t = (refl, t)
  then-of false e t = absurd (true≢false (sym t ∙ e))

  else-of : (b : Bool) → f x ≡ false → f (cond b x y) ≡ true → (b ≡ false) × (f y ≡ true)
  else-of true e t = absurd (true≢false (sym t ∙ e))
  else-of false e t = (refl, t)

  same_of : (b : Bool) → f y ≡ b → f (cond b x y) ≡ true → (b ≡ true) × (f x ≡ true)
  same_of true e t = (refl, t)
  same_of false e t = absurd (true≢false (sym t ∙ e))

-- what an undo that is taken leaves
pub record Undone (k : InUse) (area : List ℕ) : Type 0 where
  pub several : 2 ≤ k.count
  pub stands : is_taken (records_in k.count area).answer ≡ true
  pub gives : (undo_of k area).left ≡ in_use (k.count - 1) (records_in (k.count - 1) area).setting

pub undone : (k : InUse) (area : List ℕ) → is_taken (undo_of k area).answer ≡ true → Undone k area
unfolding undo_of
undone k area t =
    let f : Answered InUse → Bool = λ (x : Answered InUse). is_taken x.answer in
    let a = then-of f _ _ (eqb (length area) area_bytes) refl t in
    let b = same_of f _ _ (is_taken (records_in k.count area).answer) refl a.1 in
    let c = else-of f _ _ (ltb k.count 2) refl b.1 in
    record {
      several = ltb-false k.count 2 c.0;
      stands = b.0;
      gives = ap (λ (x : Answered InUse). x.left) (cond-true _ _ a.0 ∙ cond-true _ _ b.0 ∙ cond-false _ _ c.0);
    }

-- an undo that is taken
stands-undo : (records : List (List ℕ)) (l : Store) → Stands records l → is_taken (answer_to l undo) ≡ true → Stands (drop 1 records) (after_step l undo)
unfolding laid Each
stands-undo [] l s t = absurd (omega (arith, (undone l.settings l.area t).several, s.count))
stands-undo (b ∷ records) l s t =
    let u = undone l.settings l.area t in
    let q : l.area ≡ laid records ++ (b ++ s.rest) = s.area ∙ append_assoc (laid records) b s.rest in
    let n : l.settings.count - 1 ≡ length records = omega (arith, s.count) in
    record {
      rest = b ++ s.rest;
      area = q;
      count = ap (λ (x : InUse). x.count) u.gives ∙ n;
      all = s.all.1;
      settings =
          ap (λ (x : InUse). x.last) u.gives
          ∙ ap (λ (x : Found). x.setting) ((λ i. records_in (n i) (q i)) ∙ records-found (are-records records s.all.1) (b ++ s.rest));
    }

-- ---- refusals change nothing

pub refused-change : RefusedChange
unfolding change_of area_changed
refused-change k area handed t =
    let j = changing k.count area handed in
    let e = refused-there (is_taken j.answer) t in
    (ap (λ (x : Answered InUse). x.left) (cond-false _ _ e), cond-false _ _ e)
  where
    refused-there : (b : Bool)
        → is_taken (cond b (changed (in_use (k.count + 1) (changing k.count area handed).setting) Taken) (changed k (changing k.count area handed).answer)).answer ≡ false
        → b ≡ false
    refused-there true t = t
    refused-there false t = refl

pub refused-undo : RefusedUndo
unfolding undo_of
refused-undo k area t = one (eqb (length area) area_bytes) (is_taken (records_in k.count area).answer) (ltb k.count 2) t
  where
    last : Answered InUse
    last = changed (in_use (k.count - 1) (records_in (k.count - 1) area).setting) Taken

    one : (b c d : Bool) → is_taken (cond b (cond c (cond d (changed k NothingToUndo) last) (changed k (records_in k.count area).answer)) (changed k NoRoom)).answer ≡ false
        → (cond b (cond c (cond d (changed k NothingToUndo) last) (changed k (records_in k.count area).answer)) (changed k NoRoom)).left ≡ k
    one true true true t = refl
    one true true false t = absurd (true≢false t)
    one true false d t = refl
    one false c d t = refl

stands-refused : (records : List (List ℕ)) (l : Store) (c : Step) → Stands records l → is_taken (answer_to l c) ≡ false → Stands records (after_step l c)
stands-refused records l (change handed) s t =
    let r = refused-change l.settings l.area handed t in
    record {
      rest = s.rest;
      area = r.1 ∙ s.area;
      count = ap (λ (x : InUse). x.count) r.0 ∙ s.count;
      all = s.all;
      settings = ap (λ (x : InUse). x.last) r.0 ∙ s.settings;
    }
stands-refused records l undo s t =
    let r = refused-undo l.settings l.area t in
    record {
      rest = s.rest;
      area = s.area;
      count = ap (λ (x : InUse). x.count) r ∙ s.count;
      all = s.all;
      settings = ap (λ (x : InUse). x.last) r ∙ s.settings;
    }

-- ---- any list of changes and undos

Goes : List Step → Type 0
Goes cs = (records : List (List ℕ)) (l : Store) → Stands records l → AsStanding (standing records (taken_of l cs)) (after_steps l cs).settings

next-step : (c : Step) (cs : List Step) → Goes cs → Goes (c ∷ cs)
unfolding Goes taken_of after_steps standing
next-step c cs rec = λ records l s. go records l c s (is_taken (answer_to l c)) refl
  where
    go : (records : List (List ℕ)) (l : Store) (c : Step) → Stands records l → (b : Bool) → is_taken (answer_to l c) ≡ b
        → AsStanding (standing records (cond b (c ∷ taken_of (after_step l c) cs) (taken_of (after_step l c) cs))) (after_steps (after_step l c) cs).settings
    go records l c s false e = rec records (after_step l c) (stands-refused records l c s e)
    go records l (change handed) s true e = rec (handed ∷ records) (after_step l (change handed)) (stands-change records l s handed e)
    go records l undo s true e = rec (drop 1 records) (after_step l undo) (stands-undo records l s e)

goes : (cs : List Step) → Goes cs
unfolding Goes taken_of after_steps standing
goes [] = λ records l s. record { count = s.count; settings = subst⁻¹ (LastSets records) s.settings (last-sets records s.all) }
goes (c ∷ cs) = next-step c cs (goes cs)

pub last-standing : LastStanding
unfolding LastStanding Goes laid Each last_setting
last-standing area first cs t =
    let start : Store = record { settings = none_in_use; area = area } in
    let empty : Stands [] start = record { rest = area; area = refl; count = refl; all = tt; settings = refl } in
    goes cs (first ∷ []) (after_step start (change first)) (stands-change [] start empty first t)
