-- What the panel keeps of an orchestra stands for its tree.
use Rattle.std.specs.Prelude.{ℕ, ◌≡◌, List, [], ◌∷◌, ◌++◌, map, length, take, replicate}
use Rattle.orchestra_syntax.specs.Names.{most_instruments}
use Rattle.base_answer.specs.declared.Answer.TheVariants.{Taken}
use Rattle.orchestra_tokens.specs.Encoding.{Bytes}
use Rattle.orchestra_syntax.specs.Tree.{Instrument}
use Rattle.orchestra_syntax.specs.inside.Program.{zero_f}
use Rattle.orchestra_syntax.specs.inside.Placed.{placed}
use Rattle.code_interpreter.specs.Passes.{stretch}
use Rattle.code_bounds.specs.Sizes.{all_lowered}
use Rattle.code_program.specs.declared.Instrument as row
use Rattle.code_operations.specs.Words.{code_size, program_size}
use Rattle.code_program.specs.InstrumentTable.{blank}
use Rattle.orchestra_reader.specs.Verdict.{Accepted}
use Rattle.voices_resolved.specs.Represents.{Represents}
use Rattle.code_program.specs.declared.Program.{Program}
use Rattle.code_loader.specs.Loading.{load_of}

-- a program stands for a tree: the rows that count, with the code and the numbers
abbrev pub StandsFor : List Instrument → Program → Type 0
StandsFor is p = Represents is (take p.count p.table) p.code p.vals

-- an accepted orchestra is taken, and its program stands for its tree
pub record LoadedAs (bs : List ℕ) (is : List Instrument) : Type 0 where
  pub taken : (load_of bs).answer ≡ Taken
  pub stands : StandsFor is (load_of bs).left

-- Every accepted orchestra is loaded,
abbrev pub Loaded : Type 0
Loaded = (bs : List ℕ) (is : List Instrument) → Accepted bs is → LoadedAs bs is

-- and no other is taken.
abbrev pub TakenOnly : Type 0
TakenOnly = (bs : List ℕ) → Bytes bs → (load_of bs).answer ≡ Taken → (is : List Instrument) × Accepted bs is

-- no instruments, no code, no numbers
abbrev pub blank_program : Program
blank_program = record { table = replicate most_instruments blank; count = 0; code = replicate code_size 0; vals = replicate program_size zero_f }

-- A refusal hands back a blank program.
abbrev pub RefusedBlank : Type 0
RefusedBlank = (bs : List ℕ) → ((load_of bs).answer ≡ Taken → ⊥) → (load_of bs).left ≡ blank_program

-- the a code of a table's rows, one behind the other
unfoldable pub a_codes : List row.Instrument → List ℕ → List ℕ
a_codes [] code = []
a_codes (x ∷ xs) code = stretch x.astart x.aend code ++ a_codes xs code

pub record CodedAs (bs : List ℕ) (is : List Instrument) : Type 0 where
  pub rows : length (take (load_of bs).left.count (load_of bs).left.table) ≡ length is
  pub code : a_codes (take (load_of bs).left.count (load_of bs).left.table) (load_of bs).left.code ≡ all_lowered 2 0 (map placed is)

-- An accepted orchestra's program has a row for each instrument, and its a code is that of the instruments.
abbrev pub LoadedCode : Type 0
LoadedCode = (bs : List ℕ) (is : List Instrument) → Accepted bs is → CodedAs bs is
