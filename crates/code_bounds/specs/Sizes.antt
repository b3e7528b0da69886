-- What the sizes of document 01 leave of an orchestra's trees and of their code.
use Rattle.std.specs.Prelude.{ℕ, suc, ◌+◌, ◌≤◌, ◌<◌, ◌≡◌, List, [], ◌∷◌, ◌++◌, map, true, length, Float}
use Rattle.orchestra_tokens.specs.declared.Token.{Token}
use Rattle.orchestra_tokens.specs.Measures.{measured}
use Rattle.orchestra_syntax.specs.Tree.{Expr, Statements, done, assign, output, branch, Instrument, field_kind}
use Rattle.orchestra_syntax.specs.inside.Program.{Ins, declare, declared, instrument, program}
use Rattle.orchestra_syntax.specs.inside.Placed.{placed}
use Rattle.orchestra_expressions.specs.Areas.{val_of}
use Rattle.orchestra_syntax.specs.Grammar.{Orchestra}
use Rattle.code_operations.specs.Words.{most_ifs, most_parts, program_size}
use Rattle.code_translation.specs.Translation.{lowered}
use Rattle.code_translation.specs.Statements.{depth, Playable}

-- an expression of which no more than 64 parts wait
pub record Shallow (e : Expr) : Type 0 where
  pub deep : depth e ≤ most_parts

-- statements of such expressions, with g ifs open and never more than 24
unfoldable pub Small : ℕ → Statements → Type 0
Small g done = Unit {0}
Small g (assign c e t) = Shallow e × Small g t
Small g (output e t) = Shallow e × Small g t
Small g (branch e a b t) = Shallow e × ((g < most_ifs) × (Small (suc g) a × (Small (suc g) b × Small g t)))

-- the numbers of a program
abbrev pub numbers : List Ins → List Float
numbers p = map val_of p

-- where the code of an instrument's statements starts, if the instrument's code starts at n: after its name and those that it declares
abbrev pub body_at : ℕ → Instrument → ℕ
body_at n i = suc n + length (declare field_kind i.fields ++ declared i.declarations)

-- the statements of every instrument can be passed, each from its place; the first instrument's code starts at n
unfoldable pub AllPlayable : List Float → ℕ → List Instrument → Type 0
AllPlayable vals n [] = Unit {0}
AllPlayable vals n (i ∷ is) = Playable vals (body_at n i) 0 i.body × AllPlayable vals (n + length (instrument i)) is

-- the straight-line code of a rate's passes, of every instrument
unfoldable pub all_lowered : ℕ → ℕ → List Instrument → List ℕ
all_lowered r n [] = []
all_lowered r n (i ∷ is) = lowered r (body_at n i) 0 i.body ++ all_lowered r (n + length (instrument i)) is

-- The sizes of document 01 suffice: within the token measures, the program has at most 2,048 instructions.
abbrev pub ProgramFits : Type 0
ProgramFits = (is : List Instrument) (ts : List Token) → Orchestra is ts → measured ts ≡ true → length (program (map placed is)) ≤ program_size

-- The straight-line code of every instrument can be passed, with the numbers of the program, and with anything after them.
abbrev pub OrchestraPlayable : Type 0
OrchestraPlayable =
    (is : List Instrument) (ts : List Token) (more : List Float) → Orchestra is ts → measured ts ≡ true
    → AllPlayable (numbers (program (map placed is)) ++ more) 0 (map placed is)

-- The same of one instrument, by those before it and those after it.
abbrev pub InstrumentPlayable : Type 0
InstrumentPlayable =
    (before : List Instrument) (i : Instrument) (behind : List Instrument) (ts : List Token) (more : List Float) → Orchestra (before ++ i ∷ behind) ts
    → measured ts ≡ true
    → Playable (numbers (program (map placed (before ++ i ∷ behind))) ++ more) (body_at (length (program (map placed before))) (placed i)) 0 (placed i).body

-- The straight-line code of a pass of every instrument has at most 2,048 instructions.
abbrev pub LoweredFits : Type 0
LoweredFits =
    (is : List Instrument) (ts : List Token) (r : ℕ) → Orchestra is ts → measured ts ≡ true → length (all_lowered r 0 (map placed is)) ≤ program_size
