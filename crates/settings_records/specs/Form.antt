-- A settings record (M-107) by its bytes: "a length, counting all that follows; a version byte; for version 1 the ceiling and the highest number
-- of notes (one byte, 1 to 16); for version 2 also a starting tempo (whole, 1 to 960). The rest are two bytes, big-endian. Version 1 means tempo 60."
use Rattle.std.specs.Prelude.{◌≡◌, List, [], ◌∷◌, ◌++◌, ℕ, suc, ◌+◌, ◌*◌, ◌/◌, ◌%◌, ◌≤◌, ◌<◌, ◌⊎◌, length, cond, Result, Ok, Err}
use Rattle.base_answer.specs.Numbers.{is_taken}
use Rattle.base_answer.specs.declared.Answer.{Answer}
use Rattle.base_answer.specs.declared.Answer.TheVariants.{Taken, CutShort, OutOfRange, LeftOver, UnknownVersion}
use Rattle.settings_records.specs.declared.Setting.{Setting}

-- the number that two bytes are, and the two bytes of a number
abbrev pub sixteen_bits : ℕ → ℕ → ℕ
sixteen_bits high low = 256 * high + low

abbrev pub two_bytes : ℕ → List ℕ
two_bytes n = n / 256 ∷ n % 256 ∷ []

-- ---- what a record sets

abbrev pub setting : ℕ → ℕ → ℕ → Setting
setting ceiling notes tempo = record { ceiling = ceiling; notes = notes; tempo = tempo }

pub record Valid (s : Setting) : Type 0 where
  pub ceiling : (1 ≤ s.ceiling) × (s.ceiling ≤ 32767)
  pub notes : (1 ≤ s.notes) × (s.notes ≤ 16)
  pub tempo : (1 ≤ s.tempo) × (s.tempo ≤ 960)

-- the tempo that version 1 means
abbrev pub version_one_tempo : ℕ
version_one_tempo = 60

-- ---- records as they are encoded

pub data SettingsRecord : Type 0 where
  version_one : (ceiling notes : ℕ) → SettingsRecord
  version_two : (ceiling notes tempo : ℕ) → SettingsRecord

abbrev pub sets : SettingsRecord → Setting
sets (version_one ceiling notes) = setting ceiling notes version_one_tempo
sets (version_two ceiling notes tempo) = setting ceiling notes tempo

abbrev pub encoded : SettingsRecord → List ℕ
encoded (version_one ceiling notes) = two_bytes 4 ++ (1 ∷ two_bytes ceiling ++ (notes ∷ []))
encoded (version_two ceiling notes tempo) = two_bytes 6 ++ (2 ∷ two_bytes ceiling ++ (notes ∷ two_bytes tempo))

-- ---- what stands at the start of bytes

-- what a record sets and its bytes, or the answer to its first fault
pub record Found : Type 0 where
  pub answer : Answer
  pub setting : Setting
  pub size : ℕ

-- as it is told
abbrev pub told : Found → Result (Setting × ℕ) Answer
told f = cond (is_taken f.answer) (Ok (f.setting, f.size)) (Err f.answer)

-- a record that sets this, of so many bytes
abbrev pub found : Setting → ℕ → Found
found s size = record { answer = Taken; setting = s; size = size }

-- or a fault
abbrev pub refused_as : Answer → Found
refused_as a = record { answer = a; setting = setting 0 0 0; size = 0 }

-- the bytes behind a version byte, and what they set
pub data Body : ℕ → List ℕ → Setting → Type 0 where
  first : {a b n : ℕ} → Body 1 (a ∷ b ∷ n ∷ []) (setting (sixteen_bits a b) n version_one_tempo)
  second : {a b n c d : ℕ} → Body 2 (a ∷ b ∷ n ∷ c ∷ d ∷ []) (setting (sixteen_bits a b) n (sixteen_bits c d))

-- "each for cut 1, length zero 11, another version 17, a wrong length 11, a bad number 3"
pub data Parses : List ℕ → Found → Type 0 where
  -- cut in the length, or behind it: fewer bytes than it counts
  cut_length : {bs : List ℕ} → length bs < 2 → Parses bs (refused_as CutShort)
  cut_record : {high low : ℕ} {part : List ℕ} → length part < sixteen_bits high low → Parses (high ∷ low ∷ part) (refused_as CutShort)
  length_zero : {high low : ℕ} {rest : List ℕ} → sixteen_bits high low ≡ 0 → Parses (high ∷ low ∷ rest) (refused_as LeftOver)
  other_version : {high low version : ℕ} (body rest : List ℕ) → sixteen_bits high low ≡ suc (length body) → (version ≡ 1 → ⊥) → (version ≡ 2 → ⊥)
      → Parses (high ∷ low ∷ version ∷ (body ++ rest)) (refused_as UnknownVersion)
  wrong_length : {high low version : ℕ} (body rest : List ℕ) → sixteen_bits high low ≡ suc (length body) → (version ≡ 1) ⊎ (version ≡ 2)
      → ((s : Setting) → Body version body s → ⊥) → Parses (high ∷ low ∷ version ∷ (body ++ rest)) (refused_as LeftOver)
  bad_number : {high low version : ℕ} {s : Setting} {body : List ℕ} (rest : List ℕ) → sixteen_bits high low ≡ suc (length body) → Body version body s
      → (Valid s → ⊥) → Parses (high ∷ low ∷ version ∷ (body ++ rest)) (refused_as OutOfRange)
  -- a valid record, and what stands behind it
  valid : {high low version : ℕ} {s : Setting} {body : List ℕ} (rest : List ℕ) → sixteen_bits high low ≡ suc (length body) → Body version body s
      → Valid s → Parses (high ∷ low ∷ version ∷ (body ++ rest)) (found s (3 + length body))

-- ---- records that stand one after another

-- bytes that are one whole record, and what it sets
abbrev pub IsRecord : List ℕ → Setting → Type 0
IsRecord bytes s = Parses bytes (found s (length bytes))

-- bytes that are so many valid records, one after another, and what the last of them sets
pub data Records : ℕ → List ℕ → Setting → Type 0 where
  none : Records 0 [] (setting 0 0 0)
  next : {n : ℕ} {before new : List ℕ} {s t : Setting} → Records n before s → IsRecord new t → Records (suc n) (before ++ new) t

-- what stands at the start of an area of which so many records are in use: all of them, or the first that has a fault
pub data ParsesRecords (count : ℕ) : List ℕ → Found → Type 0 where
  all_valid : {bytes : List ℕ} {s : Setting} (rest : List ℕ) → Records count bytes s → ParsesRecords count (bytes ++ rest) (found s (length bytes))
  first_fault : {n : ℕ} {bytes rest : List ℕ} {s : Setting} {a : Answer} → Records n bytes s → n < count → Parses rest (refused_as a)
      → ParsesRecords count (bytes ++ rest) (refused_as a)
