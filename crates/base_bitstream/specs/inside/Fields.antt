-- Room for a field fact by fact, and what writing one leaves. Definitions only.
use Rattle.std.specs.Prelude.{ℕ, ◌+◌, ◌≤◌, Bool, List, length}
use Rattle.base_bitstream.specs.Bits.{field}
use Rattle.base_bitstream.specs.Fields.{farthest, room_for, over, pick}

-- the same, fact by fact
pub record Room (bits at n : ℕ) : Type 0 where
  pub width : n ≤ 32
  pub near : at ≤ farthest
  pub within : at + n ≤ bits

-- l after the lowest n bits of v are written at a position; l itself where they have no room
unfoldable pub written : List Bool → ℕ → ℕ → ℕ → List Bool
written l at n v = pick (room_for (length l) at n) (over l at (field n v)) l
