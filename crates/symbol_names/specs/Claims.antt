-- What is promised of names, by their encoding. Statements only.
use Rattle.std.specs.Prelude.{ℕ, ◌≤◌, ◌≡◌, Bool, List, [], ◌∷◌, ◌++◌, length, take}
use Rattle.std.proofs.Math.Option.{some}
use Rattle.base_answer.specs.declared.Answer.TheVariants.{Taken, CutShort}
use Rattle.base_answer.specs.declared.Answer.TheVariants as answers
use Rattle.base_bitstream.specs.Bits.{bits_of}
use Rattle.base_bitstream.specs.Filling.{filled_up}
use Rattle.symbol_names.specs.Form.{Names, name_of, table_bits, list_bytes, ValidTable, holds, refused}
use Rattle.symbol_names.specs.inside.Reading.{table_of}
use Rattle.symbol_names.specs.inside.Asking.{list_of, name_in}
use Rattle.symbol_names.specs.Asking.{name_found, unless_empty, unpacking_of, Unpacking}

-- ---- a symbol table: its bits, and zero bits to a whole byte

pub record Encodes (bytes : List ℕ) (names : Names) : Type 0 where
  pub valid : ValidTable names
  pub encoded : bits_of bytes ≡ filled_up (table_bits names)

-- the bits end before the table does
pub record Cut (bytes : List ℕ) : Type 0 where
  pub names : Names
  pub valid : ValidTable names
  pub next : Bool
  pub others : List Bool
  pub encoded : bits_of bytes ++ (next ∷ others) ≡ table_bits names

-- the table ends first, and what is behind it does not fill it up
pub record LeftOver (bytes : List ℕ) : Type 0 where
  pub names : Names
  pub valid : ValidTable names
  pub others : List Bool
  pub encoded : bits_of bytes ≡ table_bits names ++ others
  pub unfilled : bits_of bytes ≡ filled_up (table_bits names) → ⊥

-- Bytes are a table, cut short, or left over, and are answered so; by the answers they are one of the three alone.
pub data Verdict (bytes : List ℕ) : Type 0 where
  encodes : (names : Names) → Encodes bytes names → Verdict bytes
  is_cut : Cut bytes → Verdict bytes
  left_over : LeftOver bytes → Verdict bytes

abbrev pub EveryTable : Type 0
EveryTable = (bytes : List ℕ) → Verdict bytes

abbrev pub TableRead : Type 0
TableRead = (bytes : List ℕ) (names : Names) → Encodes bytes names → table_of bytes ≡ holds names

abbrev pub TableCut : Type 0
TableCut = (bytes : List ℕ) → Cut bytes → table_of bytes ≡ refused CutShort

abbrev pub TableLeftOver : Type 0
TableLeftOver = (bytes : List ℕ) → LeftOver bytes → table_of bytes ≡ refused answers.LeftOver

-- at most one list of names is encoded by given bytes
abbrev pub OneTable : Type 0
OneTable = (bytes : List ℕ) (names others : Names) → Encodes bytes names → Encodes bytes others → names ≡ others

-- ---- a list

abbrev pub ListRead : Type 0
ListRead = (bytes : List ℕ) (names : Names) → list_bytes names ≡ bytes → list_of bytes ≡ some names

abbrev pub ListEncoded : Type 0
ListEncoded = (bytes : List ℕ) (names : Names) → list_of bytes ≡ some names → list_bytes names ≡ bytes

abbrev pub OneList : Type 0
OneList = (names others : Names) → list_bytes names ≡ list_bytes others → names ≡ others

-- a list has the names that it encodes; bytes that are no list, cut anywhere, have none at all
abbrev pub NameInList : Type 0
NameInList = (names : Names) (symbol : ℕ) → name_in (list_bytes names) symbol ≡ name_of names symbol

abbrev pub NoNameInOther : Type 0
NoNameInOther = (bytes : List ℕ) (symbol : ℕ) → ((names : Names) → list_bytes names ≡ bytes → ⊥) → name_in bytes symbol ≡ []

-- ---- unpacked and asked for: the name of each symbol is the one that the table gave it, else that of the panel's own list

abbrev pub piece : Unpacking → List ℕ
piece u = take u.length-of u.buffer

abbrev pub NamesFound : Type 0
NamesFound =
    (bytes buffer own : List ℕ) (names : Names) → Encodes bytes names → length (list_bytes names) ≤ length buffer → (symbol : ℕ)
    → ((unpacking_of (table_of bytes) buffer).answer ≡ Taken)
    × ((unpacking_of (table_of bytes) buffer).length-of ≡ length (list_bytes names))
    × (name_found symbol (piece (unpacking_of (table_of bytes) buffer)) own ≡ unless_empty (name_of names symbol) (name_in own symbol))
