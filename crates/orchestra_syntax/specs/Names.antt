-- Document 01's name rules.
use Rattle.std.specs.Prelude.{ℕ, Bool, true, false, not, ◌&&◌, ◌||◌, List, [], ◌∷◌, ◌++◌, map, length, eqb, leb}
use Rattle.orchestra_syntax.specs.Tree.{Expr, number, name, unary, binary, choose, Statements, done, assign, output, branch, Declaration, Instrument, field_kind}

-- how many names an instrument has at most, fields included, and how many instruments there are at most
abbrev pub most_names : ℕ
most_names = 16

abbrev pub most_instruments : ℕ
most_instruments = 8

-- a name that is declared, and its kind
pub record Named : Type 0 where
  pub name : ℕ
  pub kind : ℕ

unfoldable pub named : ℕ → List ℕ → List Named
named k [] = []
named k (n ∷ ns) = record { name = n; kind = k } ∷ named k ns

unfoldable pub named_by : List Declaration → List Named
named_by [] = []
named_by (d ∷ ds) = named d.kind d.names ++ named_by ds

-- an instrument's names, fields first, in written order
abbrev pub names_of : Instrument → List Named
names_of i = named field_kind i.fields ++ named_by i.declarations

abbrev pub symbol_of : Named → ℕ
symbol_of n = n.name

abbrev pub symbols : List Named → List ℕ
symbols = map symbol_of

unfoldable pub has : ℕ → List ℕ → Bool
has n [] = false
has n (m ∷ ms) = eqb m n || has n ms

-- no name is among those before it
unfoldable pub apart : List ℕ → List ℕ → Bool
apart before [] = true
apart before (n ∷ ns) = not (has n before) && apart (before ++ n ∷ []) ns

abbrev pub distinct : List ℕ → Bool
distinct ns = apart [] ns

-- every name used in an expression is declared
unfoldable pub known_in : List ℕ → Expr → Bool
known_in ns (number x) = true
known_in ns (name n) = has n ns
known_in ns (unary o e) = known_in ns e
known_in ns (binary o a b) = known_in ns a && known_in ns b
known_in ns (choose c a b) = known_in ns c && (known_in ns a && known_in ns b)

-- every name used in statements is declared
unfoldable pub known : List ℕ → Statements → Bool
known ns done = true
known ns (assign n e r) = (known_in ns e && has n ns) && known ns r
known ns (output e r) = known_in ns e && known ns r
known ns (branch e a b r) = known_in ns e && (known ns a && (known ns b && known ns r))

-- at most 16 names, each declared once, and every name used is declared there
abbrev pub obeys_name_rules : Instrument → Bool
obeys_name_rules i = leb (length (names_of i)) most_names && (distinct (symbols (names_of i)) && known (symbols (names_of i)) i.body)

unfoldable pub all_obey_name_rules : List Instrument → Bool
all_obey_name_rules [] = true
all_obey_name_rules (i ∷ is) = obeys_name_rules i && all_obey_name_rules is

abbrev pub title_of : Instrument → ℕ
title_of i = i.name

-- at most 8 instruments, all named differently, each of which keeps the rules of its own names
abbrev pub name_rules : List Instrument → Bool
name_rules is = leb (length is) most_instruments && (distinct (map title_of is) && all_obey_name_rules is)
