-- Document 01's rate rules on the tree as it is written: a name has the rate that its declaration gives it.
use Rattle.std.specs.Prelude.{ℕ, Bool, true, false, ◌&&◌, ◌||◌, cond, List, [], ◌∷◌, eqb}
use Rattle.orchestra_syntax.specs.Tree.{Expr, number, name, unary, binary, choose, Statements, done, assign, output, branch, Instrument, field_kind, ivar_kind, asig_kind}
use Rattle.orchestra_syntax.specs.Names.{Named, names_of}

pub data Rate : Type 0 where
  i_rate k_rate a_rate : Rate

-- i is slowest
abbrev pub at_most : Rate → Rate → Bool
at_most i_rate r = true
at_most k_rate i_rate = false
at_most k_rate k_rate = true
at_most k_rate a_rate = true
at_most a_rate i_rate = false
at_most a_rate k_rate = false
at_most a_rate a_rate = true

abbrev pub fastest : Rate → Rate → Rate
fastest r q = cond (at_most r q) q r

abbrev pub same : Rate → Rate → Bool
same r q = at_most r q && at_most q r

-- fields and ivars i; asig a; ksig, imports or not, k
abbrev pub rate_of_kind : ℕ → Rate
rate_of_kind d = cond (eqb d field_kind || eqb d ivar_kind) i_rate (cond (eqb d asig_kind) a_rate k_rate)

-- the rate of a declared name: its declaration's
unfoldable pub rate_of : List Named → ℕ → Rate
rate_of [] n = i_rate
rate_of (m ∷ ms) n = cond (eqb m.name n) (rate_of_kind m.kind) (rate_of ms n)

module _ (ms : List Named) where
  -- an expression has the rate of its fastest part; numbers are i
  unfoldable pub rate : Expr → Rate
  rate (number x) = i_rate
  rate (name n) = rate_of ms n
  rate (unary o e) = rate e
  rate (binary o e f) = fastest (rate e) (rate f)
  rate (choose c e f) = fastest (rate c) (fastest (rate e) (rate f))

  -- An assignment has the rate of its name, and its expression may not be faster. Output has rate a. Each, inside an if at any depth, may not be
  -- slower than any guard around it, of which g is the fastest.
  unfoldable pub obeys_rate_rules : Rate → Statements → Bool
  obeys_rate_rules g done = true
  obeys_rate_rules g (assign n e t) = (at_most (rate e) (rate_of ms n) && at_most g (rate_of ms n)) && obeys_rate_rules g t
  obeys_rate_rules g (output e t) = at_most g a_rate && obeys_rate_rules g t
  obeys_rate_rules g (branch e u v t) = (obeys_rate_rules (fastest g (rate e)) u && obeys_rate_rules (fastest g (rate e)) v) && obeys_rate_rules g t

-- every instrument keeps the rate rules
unfoldable pub rate_rules : List Instrument → Bool
rate_rules [] = true
rate_rules (x ∷ xs) = obeys_rate_rules (names_of x) i_rate x.body && rate_rules xs
