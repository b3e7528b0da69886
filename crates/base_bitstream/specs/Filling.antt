-- Zero bits to a whole byte, and the bytes that bits make up. Definitions only.
use Rattle.std.specs.Prelude.{ℕ, zero, suc, ◌+◌, ◌-◌, ◌/◌, ◌%◌, Bool, false, ◌&&◌, List, [], ◌∷◌, ◌++◌, length, take, drop, replicate, eqb, ltb}
use Rattle.base_bitstream.specs.Bits.{value_of}

-- from a position on, fewer than 8 bits are left, and all are zero
unfoldable pub filled : List Bool → ℕ → Bool
filled l p = ltb (length l) (p + 8) && eqb (value_of (drop p l)) 0

-- how many bits are missing to a whole byte
abbrev pub missing : ℕ → ℕ
missing n = (8 - n % 8) % 8

-- bits, and zero bits to a whole byte
unfoldable pub filled_up : List Bool → List Bool
filled_up l = l ++ replicate (missing (length l)) false

-- the first n bytes that bits make up
unfoldable pub bytes_from : ℕ → List Bool → List ℕ
bytes_from zero l = []
bytes_from (suc n) l = value_of (take 8 l) ∷ bytes_from n (drop 8 l)

-- the bytes of a run of whole bytes
unfoldable pub bytes_of : List Bool → List ℕ
bytes_of l = bytes_from (length l / 8) l
