-- One slot of an area. Definitions only.
use Rattle.std.specs.Prelude.{ℕ, ◌+◌, ◌≡◌, List, ◌++◌, length, take, drop}
use Rattle.score_line.specs.LineFormat.{slot_words}

-- one slot put into the area
pub record SlotPut (old : List ℕ) (at : ℕ) (slot new : List ℕ) : Type 0 where
  pub long : length slot ≡ slot_words
  pub stands : new ≡ take at old ++ (slot ++ drop (at + slot_words) old)
