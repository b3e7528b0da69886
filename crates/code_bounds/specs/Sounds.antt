-- The straight-line code of an orchestra within the sizes means its trees.
use Rattle.std.specs.Prelude.{ℕ, ◌≡◌, List, ◌∷◌, ◌++◌, map, true, length, Float}
use Rattle.orchestra_tokens.specs.declared.Token.{Token}
use Rattle.orchestra_tokens.specs.Measures.{measured}
use Rattle.orchestra_syntax.specs.Tree.{Statements, Instrument}
use Rattle.orchestra_syntax.specs.inside.Program.{program}
use Rattle.orchestra_syntax.specs.inside.Placed.{placed}
use Rattle.orchestra_semantics.specs.inside.Placed.{birth, k_pass, a_passes}
use Rattle.orchestra_syntax.specs.Grammar.{Orchestra}
use Rattle.code_operations.specs.Words.{note_places}
use Rattle.code_interpreter.specs.Passes.{fresh_of, once, played}
use Rattle.code_translation.specs.Translation.{lowered}
use Rattle.code_translation.specs.Statements.{AllFit}
use Rattle.code_bounds.specs.Sizes.{numbers, body_at}

-- the code of statements, which start at n, gives a note what the statements mean: at its birth, once a cycle, and for each sample
pub record Sounds (vals : List Float) (n : ℕ) (t : Statements) : Type 0 where
  pub born : (vs : List Float) → once vals (lowered 0 n 0 t) (fresh_of vs) ≡ birth t vs
  pub cycled : (vs : List Float) → length vs ≡ note_places → once vals (lowered 1 n 0 t) vs ≡ k_pass t vs
  pub values : (vs mix : List Float) → length vs ≡ note_places → AllFit mix → (played vals (lowered 2 n 0 t) vs mix).values ≡ (a_passes t vs mix).values
  pub sums : (vs mix : List Float) → length vs ≡ note_places → AllFit mix → (played vals (lowered 2 n 0 t) vs mix).mix ≡ (a_passes t vs mix).mix

-- So it is for each instrument of an orchestra within the token measures, by those before it and those after it.
abbrev pub InstrumentSounds : Type 0
InstrumentSounds =
    (before : List Instrument) (i : Instrument) (behind : List Instrument) (ts : List Token) (more : List Float) → Orchestra (before ++ i ∷ behind) ts
    → measured ts ≡ true
    → Sounds (numbers (program (map placed (before ++ i ∷ behind))) ++ more) (body_at (length (program (map placed before))) (placed i)) (placed i).body
