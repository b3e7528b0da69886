-- What the two passes over a symbol table give: one measures it, one lays its names. Definitions only.
use Rattle.std.specs.Prelude.{ℕ, ◌+◌, ◌-◌, ◌*◌, ◌^◌, ◌<◌, ◌≤◌, ◌≡◌, Bool, true, false, List, [], ◌∷◌, ◌++◌, length, take, drop, Option, Some, None, Result, Ok, Err}
use Rattle.base_answer.specs.declared.Answer.{Answer}
use Rattle.base_answer.specs.declared.Answered.{Answered}
use Rattle.base_bitstream.specs.Bits.{bits_of, value_of}
use Rattle.base_bitstream.specs.Filling.{bytes_from}
use Rattle.symbol_names.specs.Form.{Names, count_bits, length_bits, list_bytes, Table, holds, refused}
use Rattle.symbol_names.specs.inside.Reading.{Read, got, cut, names_from}
use Rattle.symbol_names.specs.Asking.{Unpacking}

-- the number of n bits at a position
unfoldable pub number_at : List Bool → ℕ → ℕ → ℕ
number_at bits at n = value_of (take n (drop at bits))

-- the names behind a table's count
unfoldable pub names_of : List ℕ → ℕ → Read Names
names_of table count = names_from count (drop count_bits (bits_of table))

-- a count that was read
pub record Counted (table : List ℕ) (count : ℕ) : Type 0 where
  pub few : count < 2 ^ count_bits
  pub long : count_bits ≤ 8 * length table

-- where names end, and how long their list is
abbrev pub measured : List Bool → ℕ → Read Names → Option (ℕ × ℕ)
measured bits before (got names r) = Some (length bits - length r, before + length (list_bytes names))
measured bits before cut = None

-- how many names a table has, and how long their list is
abbrev pub judgement : Table → Result (ℕ × ℕ) Answer
judgement (holds names) = Ok (length names, length (list_bytes names))
judgement (refused a) = Err a

-- the list of names that were read
abbrev pub listed : Read Names → List ℕ
listed (got names r) = list_bytes names
listed cut = []

abbrev pub is_whole : Read Names → Bool
is_whole (got names r) = true
is_whole cut = false

-- names that can be laid
pub record Fits (table : List ℕ) (count room : ℕ) : Type 0 where
  pub counted : Counted table count
  pub whole : is_whole (names_of table count) ≡ true
  pub within : length (listed (names_of table count)) ≤ room

-- bytes laid over a buffer from a place on
unfoldable pub laid_at : ℕ → List ℕ → List ℕ → List ℕ
laid_at to bytes buffer = take to buffer ++ (bytes ++ drop (to + length bytes) buffer)

-- a name at a position, as a length byte and its bytes
unfoldable pub entry_at : List Bool → ℕ → List ℕ
unfolding number_at
entry_at bits at = number_at bits at length_bits ∷ bytes_from (number_at bits at length_bits) (drop (at + length_bits) bits)

-- n bytes at a position, and a place for them
pub record Copies (table buffer : List ℕ) (at n to : ℕ) : Type 0 where
  pub near : at + 8 * n < 2 ^ 32
  pub there : at + 8 * n ≤ 8 * length table
  pub place : to + n ≤ length buffer

-- a whole name at a position, and a place for it
pub record Entry (table buffer : List ℕ) (at to : ℕ) : Type 0 where
  pub near : at < 2 ^ 31
  pub opened : at + length_bits ≤ 8 * length table
  pub there : at + length_bits + 8 * number_at (bits_of table) at length_bits ≤ 8 * length table
  pub place : to + (1 + number_at (bits_of table) at length_bits) ≤ length buffer

-- a name that was laid, and its length
pub record NameLaid (table old new : List ℕ) (at to n : ℕ) : Type 0 where
  pub stands : new ≡ laid_at to (entry_at (bits_of table) at) old
  pub size : n ≡ number_at (bits_of table) at length_bits
  pub short : n < 2 ^ length_bits

-- what an unpacking tells, and the buffer that it leaves
pub record UnpacksTo (u : Unpacking) (new : List ℕ) (r : Answered ℕ) : Type 0 where
  pub told : r ≡ record { left = u.length-of; answer = u.answer }
  pub buffer : new ≡ u.buffer
