-- Fields at a position of a list of bits. Definitions and a statement only.
use Rattle.std.specs.Prelude.{ℕ, ◌+◌, ◌^◌, ◌≡◌, Bool, true, false, ◌&&◌, List, ◌++◌, length, take, drop, leb, Option, Some, None}
use Rattle.base_bitstream.specs.Bits.{field, value_of}

-- the last position at which a field may begin: one past it still has a number of 64 bits
abbrev pub farthest : ℕ
farthest = 2 ^ 62

-- n bits of v before what follows
abbrev pub put : ℕ → ℕ → List Bool → List Bool
put n v rest = field n v ++ rest

-- whether that many bits have a field of n bits at a position
unfoldable pub room_for : ℕ → ℕ → ℕ → Bool
room_for bits at n = leb n 32 && (leb at farthest && leb (at + n) bits)

-- l with the bits b from a position on
abbrev pub over : List Bool → ℕ → List Bool → List Bool
over l at b = take at l ++ (b ++ drop (at + length b) l)

abbrev pub pick : {A : Type 0} → Bool → A → A → A
pick true a b = a
pick false a b = b

-- n bits from a position on: their number and the position past them, or none where the list has no such field
unfoldable pub read_at : List Bool → ℕ → ℕ → Option (ℕ × ℕ)
read_at l at n = pick (room_for (length l) at n) (Some (value_of (take n (drop at l)), at + n)) None

-- document 01's number of each case: 0, or 1 where the bits end before the field is whole
abbrev pub number_of : Option (ℕ × ℕ) → ℕ
number_of (Some r) = 0
number_of None = 1

abbrev pub EveryNumber : Type 0
EveryNumber = (l : List Bool) (at n : ℕ) → number_of (read_at l at n) ≡ pick (room_for (length l) at n) 0 1
