-- A 32-bit pattern as a float, where it is in range, and document 01's number for it.
use Rattle.std.specs.Prelude.{◌≡◌, ℕ, Bool, true, false, cond, from_bits, Float, Option, Some, None}
use Rattle.std.specs.Float.{binary32}

-- the float that the pattern b means if b is accepted, else outside
unfoldable pub checked : Bool → ℕ → Option Float
checked true b = Some (from_bits binary32 b)
checked false b = None

-- the number of each case in document 01's table: 0 where the pattern is in range, 3 where it is a number outside it
abbrev pub number_of : Option Float → ℕ
number_of (Some x) = 0
number_of None = 3

-- what a call answers by its number: 0 exactly where the pattern is accepted, else 3
abbrev pub EveryNumber : Type 0
EveryNumber = (accepted : Bool) (b : ℕ) → number_of (checked accepted b) ≡ cond accepted 0 3
