-- Document 02 on a burst: "up to 32 access units, each after its 16-bit big-endian byte length"; "A cut burst is refused 1, any byte after
-- the 32nd unit 5, whichever is met first".
use Rattle.std.specs.Prelude.{◌≡◌, List, [], ◌∷◌, ◌++◌, ℕ, suc, ◌+◌, ◌*◌, ◌<◌, length}
use Rattle.base_answer.specs.declared.Answer.{Answer}
use Rattle.base_answer.specs.declared.Answer.TheVariants.{CutShort, TooManyValues}

-- the units of a burst, in order, or the answer to its first fault
pub data Burst : Type 0 where
  units : List (List ℕ) → Burst
  fault : Answer → Burst

-- the most units of a burst
abbrev pub most_units : ℕ
most_units = 32

-- the two bytes of a length
abbrev pub sixteen_bits : ℕ → ℕ → ℕ
sixteen_bits high low = 256 * high + low

-- a unit before the rest of a burst; of a burst with a fault nothing is kept
unfoldable pub before : List ℕ → Burst → Burst
before u (units us) = units (u ∷ us)
before u (fault a) = fault a

-- what bytes say where so many units may still come
pub data Parses : ℕ → List ℕ → Burst → Type 0 where
  nothing : {n : ℕ} → Parses n [] (units [])
  -- a unit's length, its bytes, and the rest
  unit : {n high low : ℕ} (u : List ℕ) {rest : List ℕ} (b : Burst) → sixteen_bits high low ≡ length u → Parses n rest b → Parses (suc n) (high ∷ low ∷ (u ++ rest)) (before u b)
  -- cut in a length, or behind it: fewer bytes than it says
  cut_length : {n high : ℕ} → Parses (suc n) (high ∷ []) (fault CutShort)
  cut_unit : {n high low : ℕ} {part : List ℕ} → length part < sixteen_bits high low → Parses (suc n) (high ∷ low ∷ part) (fault CutShort)
  -- any byte where no unit may come
  too_many : {b : ℕ} {bs : List ℕ} → Parses 0 (b ∷ bs) (fault TooManyValues)

-- the units that a burst is, none where it has a fault
abbrev pub units_in : Burst → List (List ℕ)
units_in (units us) = us
units_in (fault a) = []
