-- A change and an undo over the bytes of a lent area (M-107). "A change or undo checks .. an area of another length 8; the records in use and
-- then the new one ..; bytes left over 11; no room 8. .. Undo takes the last record out of use and leaves the bytes; with one left it is refused
-- 21, as its last check." A fresh start is a change with no record in use.
use Rattle.std.specs.Prelude.{cond, List, ◌++◌, ℕ, ◌+◌, ◌-◌, length, take, drop, ltb, eqb}
use Rattle.base_answer.specs.Numbers.{is_taken}
use Rattle.base_answer.specs.declared.Answer.{Answer}
use Rattle.base_answer.specs.declared.Answer.TheVariants.{Taken, NoRoom, LeftOver, NothingToUndo}
use Rattle.settings_records.specs.declared.Setting.{Setting}
use Rattle.settings_records.specs.Form.{Found}
use Rattle.settings_records.specs.declared.InUse.{InUse}
use Rattle.base_answer.specs.declared.Answered.{Answered}
use Rattle.settings_records.specs.Form.{setting, found, refused_as}
use Rattle.settings_records.specs.inside.Reading.{found_in, records_in}

-- the bytes of an area
abbrev pub area_bytes : ℕ
area_bytes = 4096

-- bytes laid at a place of an area; the others stay
unfoldable pub laid_at : ℕ → List ℕ → List ℕ → List ℕ
laid_at at bytes area = take at area ++ bytes ++ drop (at + length bytes) area

-- the new record, behind those in use: what it sets and where it goes, or the first check that fails
unfoldable pub joining : ℕ → List ℕ → Found → Found
joining at handed f =
    cond (is_taken f.answer)
    (cond (ltb f.size (length handed)) (refused_as LeftOver) (cond (ltb (area_bytes - at) f.size) (refused_as NoRoom) (found f.setting at)))
    (refused_as f.answer)

unfoldable pub changing : ℕ → List ℕ → List ℕ → Found
unfolding joining
changing count area handed =
    cond (eqb (length area) area_bytes)
    (cond (is_taken (records_in count area).answer) (joining (records_in count area).size handed (found_in handed)) (refused_as (records_in count area).answer))
    (refused_as NoRoom)

-- so many records in use, and what the last of them sets
abbrev pub in_use : ℕ → Setting → InUse
in_use count s = record { count = count; last = s }

abbrev pub changed : InUse → Answer → Answered InUse
changed k a = record { left = k; answer = a }

-- nothing is in use before the first record
abbrev pub none_in_use : InUse
none_in_use = in_use 0 (setting 0 0 0)

unfoldable pub change_of : InUse → List ℕ → List ℕ → Answered InUse
unfolding changing
change_of k area handed =
    cond (is_taken (changing k.count area handed).answer) (changed (in_use (k.count + 1) (changing k.count area handed).setting) Taken)
    (changed k (changing k.count area handed).answer)

-- the area afterwards
unfoldable pub area_changed : ℕ → List ℕ → List ℕ → List ℕ
unfolding changing laid_at
area_changed count area handed =
    cond (is_taken (changing count area handed).answer) (laid_at (changing count area handed).size handed area) area

-- an undo: the settings of what is then the last record in use, as its bytes stand in the area
unfoldable pub undo_of : InUse → List ℕ → Answered InUse
undo_of k area =
    cond (eqb (length area) area_bytes)
    (cond (is_taken (records_in k.count area).answer)
    (cond (ltb k.count 2) (changed k NothingToUndo) (changed (in_use (k.count - 1) (records_in (k.count - 1) area).setting) Taken))
    (changed k (records_in k.count area).answer))
    (changed k NoRoom)
