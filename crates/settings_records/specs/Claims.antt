-- What is promised of settings records. Statements only.
use Rattle.std.specs.Prelude.{◌≡◌, true, false, cond, List, [], ◌∷◌, ◌++◌, ℕ, length, drop}
use Rattle.base_answer.specs.Numbers.{is_taken}
use Rattle.base_answer.specs.declared.Answer.{Answer}
use Rattle.settings_records.specs.declared.Setting.{Setting}
use Rattle.settings_records.specs.Form.{Found}
use Rattle.settings_records.specs.declared.InUse.{InUse}
use Rattle.settings_records.specs.Form.{SettingsRecord, sets, encoded, Valid, found, setting, Parses, IsRecord, ParsesRecords}
use Rattle.settings_records.specs.inside.Reading.{found_in, records_in}
use Rattle.settings_records.specs.Changes.{none_in_use, change_of, area_changed, undo_of}

-- ---- a record

-- what the reader finds is what the bytes say, whatever the bytes, and they say nothing else
abbrev pub EveryRecord : Type 0
EveryRecord = (bs : List ℕ) → Parses bs (found_in bs)

abbrev pub OneMeaning : Type 0
OneMeaning = (bs : List ℕ) (f : Found) → Parses bs f → found_in bs ≡ f

-- a valid record that is encoded reads back, whatever stands behind it
abbrev pub ReadsBack : Type 0
ReadsBack = (r : SettingsRecord) (rest : List ℕ) → Valid (sets r) → found_in (encoded r ++ rest) ≡ found (sets r) (length (encoded r))

-- ---- the records in use

-- what the reader finds in an area is what stands there, whatever its bytes, and nothing else does
abbrev pub EveryArea : Type 0
EveryArea = (count : ℕ) (area : List ℕ) → ParsesRecords count area (records_in count area)

abbrev pub OneMeaningRecords : Type 0
OneMeaningRecords = (count : ℕ) (area : List ℕ) (f : Found) → ParsesRecords count area f → records_in count area ≡ f

-- ---- refusals change nothing

abbrev pub RefusedChange : Type 0
RefusedChange =
    (k : InUse) (area handed : List ℕ) → is_taken (change_of k area handed).answer ≡ false → ((change_of k area handed).left ≡ k) × (area_changed k.count area handed ≡ area)

abbrev pub RefusedUndo : Type 0
RefusedUndo = (k : InUse) (area : List ℕ) → is_taken (undo_of k area).answer ≡ false → (undo_of k area).left ≡ k

-- ---- "If every call is lent the same area and nobody else writes it, the settings are those of the last record taken and not undone."

-- a change, with the record that is handed in, or an undo
pub data Step : Type 0 where
  change : List ℕ → Step
  undo : Step

-- the settings in use, and the one area that every call is lent
pub record Store : Type 0 where
  pub settings : InUse
  pub area : List ℕ

abbrev pub answer_to : Store → Step → Answer
answer_to l (change handed) = (change_of l.settings l.area handed).answer
answer_to l undo = (undo_of l.settings l.area).answer

abbrev pub after_step : Store → Step → Store
after_step l (change handed) = record { settings = (change_of l.settings l.area handed).left; area = area_changed l.settings.count l.area handed }
after_step l undo = record { settings = (undo_of l.settings l.area).left; area = l.area }

-- what is left after them, and those that were taken
unfoldable pub after_steps : Store → List Step → Store
after_steps l [] = l
after_steps l (c ∷ cs) = after_steps (after_step l c) cs

unfoldable pub taken_of : Store → List Step → List Step
taken_of l [] = []
taken_of l (c ∷ cs) = cond (is_taken (answer_to l c)) (c ∷ taken_of (after_step l c) cs) (taken_of (after_step l c) cs)

-- the records taken and not undone, the last one first: by the changes and undos alone
unfoldable pub standing : List (List ℕ) → List Step → List (List ℕ)
standing records [] = records
standing records (change handed ∷ cs) = standing (handed ∷ records) cs
standing records (undo ∷ cs) = standing (drop 1 records) cs

-- what the last of them sets
abbrev pub LastSets : List (List ℕ) → Setting → Type 0
LastSets [] s = s ≡ setting 0 0 0
LastSets (r ∷ records) s = IsRecord r s

pub record AsStanding (records : List (List ℕ)) (k : InUse) : Type 0 where
  pub count : k.count ≡ length records
  pub settings : LastSets records k.last

-- after a first record on any area, and any changes and undos lent this area
unfoldable pub LastStanding : Type 0
LastStanding =
    (area first : List ℕ) (cs : List Step) → let start : Store = record { settings = none_in_use; area = area } in
    is_taken (answer_to start (change first)) ≡ true → let l = after_step start (change first) in
    AsStanding (standing (first ∷ []) (taken_of l cs)) (after_steps l cs).settings
