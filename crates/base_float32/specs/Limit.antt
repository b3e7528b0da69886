-- Document 01, step 6 of a cycle: the limited sample. Definitions and one statement.
use Rattle.std.specs.Prelude.{ℕ, ◌*◌, ◌/◌, ◌≤◌, min, Bool, false, cond, ℤ, pos, neg_ℤ, ◌≤ℤ◌, Float}
use Rattle.std.specs.Float.{nan, inf, fin, binary32}
use Rattle.std.specs.Float.Ieee.{up, down, mul}

-- a whole number by its sign and its size
abbrev pub signed : Bool → ℕ → ℤ
signed s n = cond s (neg_ℤ (pos n)) (pos n)

-- the fraction dropped towards zero, held between minus the ceiling and the ceiling; not-a-number gives 0
unfoldable pub held : ℕ → Float → ℤ
held ceiling nan = pos 0
held ceiling (inf s) = signed s ceiling
held ceiling (fin s m e) = signed s (min (m * up e / down e) ceiling)

-- 32,768 (1 * 2 ^ 15)
abbrev pub scale : Float
scale = fin false 1 (pos 15)

-- the sample times 32,768, rounded once, and held; a ceiling past 32,767 counts as 32,767
unfoldable pub sample_of : Float → ℕ → ℤ
sample_of x ceiling = held (min ceiling 32767) (mul binary32 x scale)

-- not above the ceiling and not below its negative
abbrev pub Within : ℕ → ℤ → Type 0
Within ceiling z = (neg_ℤ (pos ceiling) ≤ℤ z) × (z ≤ℤ pos ceiling)

-- the promise of the lock: for every float and every ceiling
abbrev pub EverySampleWithin : Type 0
EverySampleWithin = (x : Float) (ceiling : ℕ) → 1 ≤ ceiling → ceiling ≤ 32767 → Within ceiling (sample_of x ceiling)
