-- The name rules of one instruction: whether it keeps them, the names after it, and its own name put by its place.
use Rattle.std.specs.Prelude.{ℕ, Bool, true, not, ◌&&◌, cond, List, [], ◌∷◌, ◌++◌, length, ltb}
use Rattle.orchestra_syntax.specs.Names.{Named, symbols, has}
use Rattle.orchestra_syntax.specs.inside.Placed.{place}
use Rattle.orchestra_syntax.specs.declared.OpClass.{OpClass}
use Rattle.orchestra_syntax.specs.declared.OpClass.TheVariants.{Value, Name, Store, Output, If, Else, End, Declare, Instr}

-- whether an instruction keeps the rules, where ts are the instruments named so far and ms the names of this one
abbrev pub valid : OpClass → ℕ → List ℕ → List Named → Bool
valid Value n ts ms = true
valid Name n ts ms = has n (symbols ms)
valid Store n ts ms = has n (symbols ms)
valid Output n ts ms = true
valid If n ts ms = true
valid Else n ts ms = true
valid End n ts ms = true
valid Declare n ts ms = ltb (length ms) 16 && not (has n (symbols ms))
valid Instr n ts ms = ltb (length ts) 8 && not (has n ts)

-- the names after it, of which there is room for 16; a declaration's operation is its kind
abbrev pub names_after : OpClass → ℕ → ℕ → List Named → List Named
names_after Value o n ms = ms
names_after Name o n ms = ms
names_after Store o n ms = ms
names_after Output o n ms = ms
names_after If o n ms = ms
names_after Else o n ms = ms
names_after End o n ms = ms
names_after Declare o n ms = cond (ltb (length ms) 16) (ms ++ record { name = n; kind = o } ∷ []) ms
names_after Instr o n ms = []

-- the instruments after it, of which there is room for 8
abbrev pub titles_after : OpClass → ℕ → List ℕ → List ℕ
titles_after Value n ts = ts
titles_after Name n ts = ts
titles_after Store n ts = ts
titles_after Output n ts = ts
titles_after If n ts = ts
titles_after Else n ts = ts
titles_after End n ts = ts
titles_after Declare n ts = ts
titles_after Instr n ts = cond (ltb (length ts) 8) (ts ++ n ∷ []) ts

-- a name that is used stands by its place; one that is declared stays
abbrev pub placed_name : OpClass → ℕ → List Named → ℕ
placed_name Value n ms = n
placed_name Name n ms = place ms n
placed_name Store n ms = place ms n
placed_name Output n ms = n
placed_name If n ms = n
placed_name Else n ms = n
placed_name End n ms = n
placed_name Declare n ms = n
placed_name Instr n ms = n
