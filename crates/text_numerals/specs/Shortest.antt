-- The text of a float that is written: of all that read as it the one with the fewest decimals, and of these the smallest in size. Definitions and
-- statements only.
use Rattle.std.specs.Prelude.{ℕ, ◌≤◌, ◌<◌, ◌≡◌, Float}
use Rattle.text_numerals.specs.Numeral.{Numeral, Valid, NoLeadingZeros, most_number, most_decimals, float_of, numeral_of, meaning}
use Rattle.text_numerals.specs.Nearest.{sign_of}

-- the number n with d decimals, and the float's own sign, reads as x
abbrev pub Reads : Float → ℕ → ℕ → Type 0
Reads x n d = float_of (sign_of x) n d ≡ x

pub record Shortest (x : Float) (n d : ℕ) : Type 0 where
  pub below : n < most_number
  pub few : d ≤ most_decimals
  pub reads : Reads x n d
  pub fewest : (k c : ℕ) → k < most_number → c < d → Reads x k c → ⊥
  pub least : (k : ℕ) → k < n → Reads x k d → ⊥

-- no text reads as x
abbrev pub NoText : Float → Type 0
NoText x = (n d : ℕ) → n < most_number → d ≤ most_decimals → Reads x n d → ⊥

-- ---- what is promised of it

-- one text or none
abbrev pub OneText : Type 0
OneText = (x : Float) (n d k c : ℕ) → Shortest x n d → Shortest x k c → (n ≡ k) × (d ≡ c)

abbrev pub NotBoth : Type 0
NotBoth = (x : Float) (n d : ℕ) → Shortest x n d → NoText x → ⊥

-- its digits are valid, begin with no needless zeros, and mean the float
pub record Writes (x : Float) (y : Numeral) : Type 0 where
  pub valid : Valid y
  pub plain : NoLeadingZeros y.digits
  pub means : meaning y ≡ x

abbrev pub ShortestWrites : Type 0
ShortestWrites = (x : Float) (n d : ℕ) → Shortest x n d → Writes x (numeral_of (sign_of x) n d)
