-- The names of symbols (M-112), encoded as source document 000's symbol table and as a list of bytes. Definitions only.
use Rattle.std.specs.Prelude.{ℕ, ◌^◌, ◌<◌, List, [], ◌∷◌, ◌++◌, Bool, length, get_or}
use Rattle.base_bitstream.specs.Bits.{field, bits_of}
use Rattle.base_answer.specs.declared.Answer.{Answer}

-- the names of the symbols from 0 on, in order; the empty one says that its symbol has none (002, 1.3)
abbrev pub Names : Type 0
Names = List (List ℕ)

-- a symbol past them has no name either
abbrev pub name_of : Names → ℕ → List ℕ
name_of names symbol = get_or names symbol []

-- ---- the symbol table, as bits: a 16-bit count, then for each symbol from 0 a 4-bit length and that many bytes

abbrev pub count_bits : ℕ
count_bits = 16

abbrev pub length_bits : ℕ
length_bits = 4

unfoldable pub name_bits : List ℕ → List Bool
name_bits name = field length_bits (length name) ++ bits_of name

unfoldable pub names_bits : Names → List Bool
unfolding name_bits
names_bits [] = []
names_bits (name ∷ names) = name_bits name ++ names_bits names

unfoldable pub table_bits : Names → List Bool
unfolding names_bits
table_bits names = field count_bits (length names) ++ names_bits names

-- ---- a list, as bytes: each name as a length byte and its bytes, in symbol order

unfoldable pub list_bytes : Names → List ℕ
list_bytes [] = []
list_bytes (name ∷ names) = length name ∷ (name ++ list_bytes names)

-- ---- what a table can hold

abbrev pub Bytes : List ℕ → Type 0
Bytes s = (i : ℕ) → get_or s i 0 < 2 ^ 8

pub record ValidName (name : List ℕ) : Type 0 where
  pub short : length name < 2 ^ length_bits
  pub bytes : Bytes name

unfoldable pub ValidNames : Names → Type 0
ValidNames [] = Unit {0}
ValidNames (name ∷ names) = ValidName name × ValidNames names

pub record ValidTable (names : Names) : Type 0 where
  pub few : length names < 2 ^ count_bits
  pub valid : ValidNames names

-- the names of a table, or the number that refuses it
pub data Table : Type 0 where
  holds : Names → Table
  refused : Answer → Table
