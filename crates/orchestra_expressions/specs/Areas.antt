-- What the reading code does with the three lent areas that take a program's instructions.
use Rattle.std.specs.Prelude.{Option, Some, None, ◌≡◌, ℕ, ◌+◌, ◌-◌, ◌≤◌, cond, List, [], ◌∷◌, map, length, take, drop, Float}
use Rattle.std.proofs.lemmas.List.Edits.{sets}
use Rattle.orchestra_tokens.specs.declared.Token.{Token}
use Rattle.orchestra_syntax.specs.inside.Program.{Ins}
use Rattle.orchestra_expressions.specs.Roles.{sign_l}
use Rattle.orchestra_expressions.specs.Reader.{Res, no, ok}

-- how far a reading has come: the next token and the next place in the code; none at a refusal
abbrev pub ParseState : Type 0
ParseState = Option (ℕ × ℕ)

-- an operation, an argument and a number for each instruction
pub record Areas : Type 0 where
  pub ops : List ℕ
  pub args : List ℕ
  pub vals : List Float

abbrev pub areas : List ℕ → List ℕ → List Float → Areas
areas a b x = record { ops = a; args = b; vals = x }

abbrev pub op_of : Ins → ℕ
op_of i = i.op

abbrev pub arg_of : Ins → ℕ
arg_of i = i.arg

abbrev pub val_of : Ins → Float
val_of i = i.val

-- code from the place `out` on
abbrev pub stored : Areas → ℕ → List Ins → Areas
stored m out c = record { ops = sets m.ops out (map op_of c); args = sets m.args out (map arg_of c); vals = sets m.vals out (map val_of c) }

-- one instruction where a reading has come to
abbrev pub stored_at : ParseState → Areas → Ins → Areas
stored_at (Some (at, out)) m i = stored m out (i ∷ [])
stored_at None m i = m

abbrev pub one_more : ParseState → ParseState
one_more (Some (at, out)) = Some (at, out + 1)
one_more None = None

-- past a sign that must be there
abbrev pub passed : ℕ → List Token → ParseState → ParseState
passed s ts (Some (at, out)) = cond (sign_l (drop at ts) s) (Some (at + 1, out)) None
passed s ts None = None

-- the tokens left
abbrev pub left : List Token → ParseState → ℕ
left ts (Some (at, out)) = length ts - at
left ts None = 0

-- each area has n places
pub record Holds (n : ℕ) (m : Areas) : Type 0 where
  pub ops : n ≤ length m.ops
  pub args : n ≤ length m.args
  pub vals : n ≤ length m.vals

-- there is room for one instruction where a reading has come to
pub record Place (g : ParseState) (m : Areas) : Type 0 where
  pub fits : (at out : ℕ) → g ≡ Some (at, out) → Holds (out + 1) m

-- a reading has come to a place among the tokens, and each area has room for an instruction to each token that is left, and for k more
pub data Ready (ts : List Token) (k : ℕ) (g : ParseState) (m : Areas) : Type 0 where
  gone : g ≡ None → Ready ts k g m
  come : (at out : ℕ) → g ≡ Some (at, out) → at ≤ length ts → Holds (out + k + (length ts - at)) m → Ready ts k g m

-- The code, which has come to g, reads on as f does, and comes to h: what the areas, m before, then hold. At a refusal they hold some code from the
-- first free place on, and are as they were before that place.
pub data Runs (ts : List Token) (f : List Token → Res) (g : ParseState) (m : Areas) (h : ParseState) (n : Areas) : Type 0 where
  gone : g ≡ None → h ≡ None → n ≡ m → Runs ts f g m h n
  refused : (at out : ℕ) (c : List Ins) → g ≡ Some (at, out) → f (drop at ts) ≡ no → h ≡ None → n ≡ stored m out c → Runs ts f g m h n
  done : (at out to : ℕ) (c : List Ins) → g ≡ Some (at, out) → f (drop at ts) ≡ ok c (drop to ts) → to ≤ length ts → h ≡ Some (to, out + length c)
      → n ≡ stored m out c → Runs ts f g m h n

-- Whatever is stored from a place on, all that stands before it stays, and so does each area's length.
pub record Stays (m : Areas) (out : ℕ) (n : Areas) : Type 0 where
  pub ops : take out n.ops ≡ take out m.ops
  pub args : take out n.args ≡ take out m.args
  pub vals : take out n.vals ≡ take out m.vals
  pub sizes : (length n.ops ≡ length m.ops) × ((length n.args ≡ length m.args) × (length n.vals ≡ length m.vals))

abbrev pub StoredStays : Type 0
StoredStays = (m : Areas) (out : ℕ) (c : List Ins) → Stays m out (stored m out c)
