-- A burst as the reader finds it; `EveryBurst` and `OneParse` tie it to `Parses`. Definitions only.
use Rattle.std.specs.Prelude.{cond, List, [], ◌∷◌, ℕ, zero, suc, ◌+◌, length, take, drop, leb}
use Rattle.base_answer.specs.declared.Answer.TheVariants.{Taken, CutShort, TooManyValues}
use Rattle.score_bursts.specs.declared.BurstScan.{BurstScan}
use Rattle.score_bursts.specs.Bursts.{Burst, most_units, sixteen_bits, before, units, fault}

-- where no unit may come
unfoldable pub behind_last : List ℕ → Burst
behind_last [] = units []
behind_last (b ∷ bs) = fault TooManyValues

-- a unit, and the rest as it is read
unfoldable pub first_of : (List ℕ → Burst) → List ℕ → Burst
first_of rest [] = units []
first_of rest (high ∷ []) = fault CutShort
first_of rest (high ∷ low ∷ bs) =
    cond (leb (sixteen_bits high low) (length bs)) (before (take (sixteen_bits high low) bs) (rest (drop (sixteen_bits high low) bs))) (fault CutShort)

-- where so many units may still come
unfoldable pub burst_from : ℕ → List ℕ → Burst
burst_from zero = behind_last
burst_from (suc n) = first_of (burst_from n)

-- the units of a burst's bytes, or the first of 1 and 5 met
abbrev pub burst_of : List ℕ → Burst
burst_of bs = burst_from most_units bs

-- ---- what the first pass tells: the answer, and how many units there are

-- n units came before
unfoldable pub scan_from : ℕ → Burst → BurstScan
scan_from n (units us) = record { answer = Taken; units = n + length us }
scan_from n (fault a) = record { answer = a; units = 0 }

abbrev pub scan_of : Burst → BurstScan
scan_of b = scan_from 0 b

-- the length that stands at the start of bytes, 0 where they are too few
unfoldable pub length_at : List ℕ → ℕ
length_at [] = 0
length_at (high ∷ []) = 0
length_at (high ∷ low ∷ bs) = sixteen_bits high low
