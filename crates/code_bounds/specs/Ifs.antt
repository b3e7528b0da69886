-- How many ifs and blocks an orchestra can have, by its tokens.
use Rattle.std.specs.Prelude.{ℕ, suc, ◌+◌, ◌*◌, ◌≤◌, ◌≡◌, List, [], ◌∷◌, true, length}
use Rattle.orchestra_tokens.specs.declared.Token.{Token}
use Rattle.orchestra_tokens.specs.Measures.{measured}
use Rattle.orchestra_syntax.specs.Tree.{Statements, done, assign, output, branch, Instrument}
use Rattle.orchestra_syntax.specs.Grammar.{Orchestra}

-- the ifs of statements
unfoldable pub ifs : Statements → ℕ
ifs done = 0
ifs (assign n e t) = ifs t
ifs (output e t) = ifs t
ifs (branch e a b t) = suc (ifs a + ifs b + ifs t)

-- an else with statements
abbrev pub another : Statements → ℕ
another done = 0
another (assign n e t) = 1
another (output e t) = 1
another (branch e a b t) = 1

-- such elses of statements
unfoldable pub elses : Statements → ℕ
elses done = 0
elses (assign n e t) = elses t
elses (output e t) = elses t
elses (branch e a b t) = another b + (elses a + elses b + elses t)

-- those of an orchestra
unfoldable pub all_ifs : List Instrument → ℕ
all_ifs [] = 0
all_ifs (i ∷ is) = ifs i.body + all_ifs is

unfoldable pub all_elses : List Instrument → ℕ
all_elses [] = 0
all_elses (i ∷ is) = elses i.body + all_elses is

-- "if ( x ) { }" and "instr x ( ) { }" have 6 tokens, "else { }" has 3
abbrev pub if_tokens : ℕ
if_tokens = 6

abbrev pub instr_tokens : ℕ
instr_tokens = 6

abbrev pub else_tokens : ℕ
else_tokens = 3

abbrev pub IfsByTokens : Type 0
IfsByTokens =
    (is : List Instrument) (ts : List Token) → Orchestra is ts
    → instr_tokens * length is + if_tokens * all_ifs is + else_tokens * all_elses is ≤ length ts

-- So within the token measures: at most 340 ifs, and at most 453 blocks of ifs and of elses.
pub record FewIfs (is : List Instrument) : Type 0 where
  pub ifs : all_ifs is ≤ 340
  pub blocks : all_ifs is + all_elses is ≤ 453

abbrev pub IfsFit : Type 0
IfsFit = (is : List Instrument) (ts : List Token) → Orchestra is ts → measured ts ≡ true → FewIfs is
