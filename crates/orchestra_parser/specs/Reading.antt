-- What the reading of a whole orchestra gives.
use Rattle.std.specs.Prelude.{◌≡◌, List, length}
use Rattle.orchestra_tokens.specs.declared.Token.{Token}
use Rattle.orchestra_syntax.specs.Tree.{Instrument}
use Rattle.orchestra_syntax.specs.inside.Program.{Ins, program}
use Rattle.std.specs.Prelude.{Some, None}
use Rattle.orchestra_expressions.specs.Areas.{ParseState, Areas, stored}
use Rattle.orchestra_syntax.specs.Grammar.{Orchestra}

-- The tokens are an orchestra's: all are read, and its program stands at the front of the areas, m before, as n. Or they are none's; then some code
-- stands there, and the areas are as they were behind it.
pub data Reads (ts : List Token) (m : Areas) (g : ParseState) (n : Areas) : Type 0 where
  read : (is : List Instrument) → Orchestra is ts → g ≡ Some (length ts, length (program is)) → n ≡ stored m 0 (program is) → Reads ts m g n
  refused : (c : List Ins) → ((is : List Instrument) → Orchestra is ts → ⊥) → g ≡ None → n ≡ stored m 0 c → Reads ts m g n
