-- The reader's stages are document 01's: the grammar, the name rules and the rate rules, each on what it works on. Statements.
use Rattle.std.specs.Prelude.{◌≡◌, true, List, []}
use Rattle.orchestra_tokens.specs.declared.Token.{Token}
use Rattle.orchestra_syntax.specs.Tree.{Instrument}
use Rattle.orchestra_syntax.specs.Grammar.{Orchestra}
use Rattle.orchestra_syntax.specs.Names.{name_rules}
use Rattle.orchestra_syntax.specs.Rates.{rate_rules}
use Rattle.orchestra_syntax.specs.inside.Program.{Ins, program}
use Rattle.orchestra_expressions.specs.Reader.{ok}
use Rattle.orchestra_grammar.specs.Reader.{orchestra}
use Rattle.orchestra_rules.specs.Formed.{ops_of, args_of}
use Rattle.orchestra_rules.specs.Naming.{names_pass, places_pass}
use Rattle.orchestra_rules.specs.Rating.{rates_pass}

-- Every orchestra of the grammar is read, whole, as the program of its tree,
abbrev pub GrammarComplete : Type 0
GrammarComplete = (is : List Instrument) (ts : List Token) → Orchestra is ts → orchestra ts ≡ ok (program is) []

-- what is read is one of the grammar's, and the program of its tree,
pub record Read (ts : List Token) (c : List Ins) (r : List Token) : Type 0 where
  pub tree : List Instrument
  pub derives : Orchestra tree ts
  pub code : c ≡ program tree
  pub whole : r ≡ []

abbrev pub GrammarSound : Type 0
GrammarSound = (ts : List Token) (c : List Ins) (r : List Token) → orchestra ts ≡ ok c r → Read ts c r

-- and no tokens have two trees.
abbrev pub GrammarUnique : Type 0
GrammarUnique = (is js : List Instrument) (ts : List Token) → Orchestra is ts → Orchestra js ts → is ≡ js

-- The pass over a tree's program finds what the name rules say of the tree,
abbrev pub NamesJudged : Type 0
NamesJudged = (is : List Instrument) (ts : List Token) → Orchestra is ts → names_pass (ops_of (program is)) (args_of (program is)) ≡ name_rules is

-- and, with the names put by their places, what the rate rules say.
abbrev pub RatesJudged : Type 0
RatesJudged =
    (is : List Instrument) (ts : List Token) → Orchestra is ts → name_rules is ≡ true
    → rates_pass (ops_of (program is)) (places_pass (ops_of (program is)) (args_of (program is))) ≡ rate_rules is
