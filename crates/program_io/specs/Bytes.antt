-- Numbers as bytes, and bytes laid into a buffer. Definitions only.
use Rattle.std.specs.Prelude.{◌≡◌, ℕ, zero, suc, ◌+◌, ◌-◌, ◌*◌, ◌/◌, ◌%◌, min, cond, List, [], ◌∷◌, ◌++◌, length, ℤ, pos, negsuc, nat_lt, slice_index}
use Rattle.std.proofs.lemmas.List.Edits.{sets}

-- a byte as a list of its own
abbrev pub itself : ℕ → List ℕ
itself b = b ∷ []

-- a number as n bytes, the most significant first, and the least significant first
unfoldable pub big_endian : ℕ → ℕ → List ℕ
big_endian zero v = []
big_endian (suc n) v = big_endian n (v / 256) ++ (v % 256 ∷ [])

unfoldable pub little_endian : ℕ → ℕ → List ℕ
little_endian zero v = []
little_endian (suc n) v = v % 256 ∷ little_endian n (v / 256)

-- the 16 bits of a sample, as a number: negsuc n is -(n + 1)
unfoldable pub sample_bits : ℤ → ℕ
sample_bits (pos n) = n
sample_bits (negsuc n) = 65535 - n

-- what each element gives, one behind the other
unfoldable pub joined : {A : Type 0} → (A → List ℕ) → List A → List ℕ
joined f [] = []
joined f (x ∷ xs) = f x ++ joined f xs

-- a buffer with bytes laid over it from a place on, those past its end left out, and the place behind what was laid
pub record Put (old : List ℕ) (at : ℕ) (bytes : List ℕ) (new : List ℕ) (next : ℕ) : Type 0 where
  pub laid : new ≡ sets old at bytes
  pub behind : next ≡ at + min (length bytes) (length old - at)

-- the number of two bytes that stand at a place, the most significant first; past the end there are zeros
abbrev pub symbol_at : List ℕ → ℕ → ℕ
symbol_at l at = slice_index l at * 256 + slice_index l (at + 1)

-- the number of four bytes that stand at a place, the most significant first; past the end there are zeros
unfoldable pub word_at : List ℕ → ℕ → ℕ
word_at l at = ((slice_index l at * 256 + slice_index l (at + 1)) * 256 + slice_index l (at + 2)) * 256 + slice_index l (at + 3)

-- the first n of the words that stand in a list of bytes
unfoldable pub words_of : List ℕ → ℕ → List ℕ
unfolding word_at
words_of l zero = []
words_of l (suc n) = words_of l n ++ (word_at l (4 * n) ∷ [])

-- a number that two bytes hold, else 0
unfoldable pub in_two_bytes : ℕ → ℕ
in_two_bytes n = cond (nat_lt n 65536) n 0

-- a checksum carried on over samples
unfoldable pub checksum : ℕ → List ℤ → ℕ
unfolding sample_bits
checksum sum [] = sum
checksum sum (s ∷ rest) = checksum (sum % 67108864 * 61 + sample_bits s) rest
