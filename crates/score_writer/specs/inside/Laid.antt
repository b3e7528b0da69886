-- Bits laid at a position, with room for them. Definitions only.
use Rattle.std.specs.Prelude.{ℕ, ◌≤◌, ◌+◌, ◌≡◌, Bool, List, length}
use Rattle.base_bitstream.specs.Fields.{over, farthest}

-- ---- inside: bits laid at a position, with room for them

pub record Laid (old : List Bool) (at : ℕ) (bits : List Bool) (new : List Bool) (p : ℕ) : Type 0 where
  pub past : p ≡ at + length bits
  pub stands : new ≡ over old at bits

pub record RoomAt (bits at n : ℕ) : Type 0 where
  pub near : at + n ≤ farthest
  pub within : at + n ≤ bits

-- a length and its bound
pub record Short (n most r : ℕ) : Type 0 where
  pub is : r ≡ n
  pub bound : r ≤ most
