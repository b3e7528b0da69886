-- The placed form of a tree, which the player's code is made of: a name is a number, of its rate and its place (`placed_as`). What is said of it here is
-- what document 01 says of the tree as it is written (`Translation`).
use Rattle.std.specs.Prelude.{ℕ, suc, ◌+◌, ◌*◌, ◌/◌, ◌%◌, max, Bool, true, ◌&&◌, cond, List, [], ◌∷◌, eqb, leb}
use Rattle.orchestra_syntax.specs.Tree.{Expr, number, name, unary, binary, choose, Statements, done, assign, output, branch, Instrument}
use Rattle.orchestra_syntax.specs.Names.{Named, names_of}
use Rattle.orchestra_syntax.specs.Rates.{Rate, i_rate, k_rate, a_rate, rate_of_kind}

-- rates as numbers, i slowest
abbrev pub speed : Rate → ℕ
speed i_rate = 0
speed k_rate = 1
speed a_rate = 2

-- the rate of a declaration's kind, as a number
abbrev pub speed_of_kind : ℕ → ℕ
speed_of_kind d = speed (rate_of_kind d)

-- a name by its place: its rate and its place as one number
abbrev pub placed_as : ℕ → ℕ → ℕ
placed_as r p = 16 * r + p

abbrev pub rate_of : ℕ → ℕ
rate_of c = c / 16 % 4

abbrev pub place_of : ℕ → ℕ
place_of c = c % 16

-- a declared name, where the first of the list has the place p; 0 where there is none
unfoldable pub place_from : ℕ → ℕ → List Named → ℕ
place_from p n [] = 0
place_from p n (m ∷ ms) = cond (eqb m.name n) (placed_as (speed_of_kind m.kind) p) (place_from (suc p) n ms)

abbrev pub place : List Named → ℕ → ℕ
place ms n = place_from 0 n ms

unfoldable pub put_in : List Named → Expr → Expr
put_in ms (number x) = number x
put_in ms (name n) = name (place ms n)
put_in ms (unary o e) = unary o (put_in ms e)
put_in ms (binary o a b) = binary o (put_in ms a) (put_in ms b)
put_in ms (choose c a b) = choose (put_in ms c) (put_in ms a) (put_in ms b)

unfoldable pub put : List Named → Statements → Statements
put ms done = done
put ms (assign n e r) = assign (place ms n) (put_in ms e) (put ms r)
put ms (output e r) = output (put_in ms e) (put ms r)
put ms (branch e a b r) = branch (put_in ms e) (put ms a) (put ms b) (put ms r)

-- an instrument whose body has its names by their places
abbrev pub placed : Instrument → Instrument
placed i = record { name = i.name; fields = i.fields; declarations = i.declarations; body = put (names_of i) i.body }

-- ---- the rate rules on placed names

unfoldable pub rate : Expr → ℕ
rate (number x) = 0
rate (name c) = rate_of c
rate (unary o e) = rate e
rate (binary o a b) = max (rate a) (rate b)
rate (choose c a b) = max (rate c) (max (rate a) (rate b))

unfoldable pub obeys_rate_rules : ℕ → Statements → Bool
obeys_rate_rules g done = true
obeys_rate_rules g (assign c e r) = (leb (rate e) (rate_of c) && leb g (rate_of c)) && obeys_rate_rules g r
obeys_rate_rules g (output e r) = leb g 2 && obeys_rate_rules g r
obeys_rate_rules g (branch e a b r) = (obeys_rate_rules (max g (rate e)) a && obeys_rate_rules (max g (rate e)) b) && obeys_rate_rules g r

unfoldable pub rate_rules : List Instrument → Bool
rate_rules [] = true
rate_rules (i ∷ is) = obeys_rate_rules 0 (placed i).body && rate_rules is
