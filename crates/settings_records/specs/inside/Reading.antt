-- A record as the reader finds it (`EveryRecord` and `OneMeaning` tie it to `Parses`), and the records in use. Definitions only.
use Rattle.std.specs.Prelude.{Bool, ◌&&◌, cond, List, ℕ, zero, suc, ◌+◌, ◌-◌, length, drop, get_or, leb, ltb, eqb}
use Rattle.base_answer.specs.Numbers.{is_taken}
use Rattle.base_answer.specs.declared.Answer.TheVariants.{CutShort, OutOfRange, LeftOver, UnknownVersion}
use Rattle.settings_records.specs.declared.Setting.{Setting}
use Rattle.settings_records.specs.Form.{Found}
use Rattle.settings_records.specs.Form.{sixteen_bits, setting, version_one_tempo, found, refused_as}

-- from 1 to the most
unfoldable pub within_of : ℕ → ℕ → Bool
within_of x most = leb 1 x && leb x most

unfoldable pub judged_of : ℕ → ℕ → ℕ → ℕ → Found
judged_of ceiling notes tempo size =
    cond (within_of ceiling 32767)
    (cond (within_of notes 16) (cond (within_of tempo 960) (found (setting ceiling notes tempo) size) (refused_as OutOfRange)) (refused_as OutOfRange)) (refused_as OutOfRange)

-- a record of length k of a version
unfoldable pub of_version : List ℕ → ℕ → ℕ → Found
unfolding judged_of
of_version s k version =
    cond (eqb version 1) (cond (eqb k 4) (judged_of (sixteen_bits (get_or s 3 0) (get_or s 4 0)) (get_or s 5 0) version_one_tempo 6) (refused_as LeftOver))
    (cond (eqb version 2)
    (cond (eqb k 6) (judged_of (sixteen_bits (get_or s 3 0) (get_or s 4 0)) (get_or s 5 0) (sixteen_bits (get_or s 6 0) (get_or s 7 0)) 8) (refused_as LeftOver))
    (refused_as UnknownVersion))

unfoldable pub behind_length : List ℕ → ℕ → Found
unfolding of_version
behind_length s k = cond (ltb (length s - 2) k) (refused_as CutShort) (cond (eqb k 0) (refused_as LeftOver) (of_version s k (get_or s 2 0)))

-- the record at the start of bytes
unfoldable pub found_in : List ℕ → Found
unfolding behind_length
found_in s = cond (ltb (length s) 2) (refused_as CutShort) (behind_length s (sixteen_bits (get_or s 0 0) (get_or s 1 0)))

-- so many records more from a place on: the last one, and where it ends
unfoldable pub walked : ℕ → List ℕ → ℕ → Setting → Found
unfolding found_in
walked zero s at last = found last at
walked (suc n) s at last =
    cond (is_taken (found_in (drop at s)).answer) (walked n s (at + (found_in (drop at s)).size) (found_in (drop at s)).setting)
    (refused_as (found_in (drop at s)).answer)

-- the records in use, from byte 0
abbrev pub records_in : ℕ → List ℕ → Found
records_in count area = walked count area 0 (setting 0 0 0)
