-- What a tree means by place is what it means by symbol: statements. A note's values by place stand for its values by symbol.
use Rattle.std.specs.Prelude.{ℕ, ◌≡◌, true, List, length, get_or, take, Float}
use Rattle.base_float32.specs.Builtins.{zero_f}
use Rattle.orchestra_syntax.specs.Tree.{Expr, Statements, Instrument}
use Rattle.orchestra_syntax.specs.Names.{Named, names_of, symbols, has, known_in, obeys_name_rules, most_names}
use Rattle.orchestra_syntax.specs.Rates.{Rate}
use Rattle.orchestra_syntax.specs.inside.Placed.{speed, place_of, place, put_in, put}
use Rattle.orchestra_semantics.specs.inside.Placed as placed
use Rattle.orchestra_semantics.specs.Meaning.{Environment, Memory, Working, value, pass, birth, cycle}

-- an instrument's body in placed form
abbrev pub body_of : Instrument → Statements
body_of x = put (names_of x) x.body

-- of each declared name, the value at its place is the value of its symbol
pub record Stands (ms : List Named) (vs : List Float) (values : ℕ → Float) : Type 0 where
  pub size : length vs ≡ most_names
  pub holds : (n : ℕ) → has n (symbols ms) ≡ true → get_or vs (place_of (place ms n)) zero_f ≡ values n

-- the value of an expression agrees
abbrev pub ValueAgrees : Type 0
ValueAgrees =
    (ms : List Named) (vs : List Float) (v : Environment) (e : Expr) → Stands ms vs v.values → known_in (symbols ms) e ≡ true
    → placed.value vs (put_in ms e) ≡ value v e

-- a pass agrees
pub record Alike (ms : List Named) (s : placed.Sounding) (w : Working) : Type 0 where
  pub memory : Stands ms s.values w.memory.values
  pub sample : s.sample ≡ w.sample

abbrev pub PassAgrees : Type 0
PassAgrees =
    (x : Instrument) (r : Rate) (s : placed.Sounding) (w : Working) → obeys_name_rules x ≡ true → Alike (names_of x) s w
    → Alike (names_of x) (placed.pass (speed r) (body_of x) s) (pass (names_of x) r x.body w)

-- birth agrees, where the line's values are cut to the fields
abbrev pub BirthAgrees : Type 0
BirthAgrees =
    (x : Instrument) (vs : List Float) → obeys_name_rules x ≡ true
    → Stands (names_of x) (placed.birth (body_of x) (take (length x.fields) vs)) (birth x vs).memory.values

-- and so does each cycle, sample by sample
abbrev pub CycleAgrees : Type 0
CycleAgrees =
    (x : Instrument) (vs mix : List Float) (m : Memory) → obeys_name_rules x ≡ true → Stands (names_of x) vs m.values
    → Stands (names_of x) (placed.cycle (body_of x) vs mix).values (cycle x m mix).memory.values
    × ((placed.cycle (body_of x) vs mix).mix ≡ (cycle x m mix).mix)
