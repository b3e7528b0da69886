-- The placed form is a translation of the tree as it is written: places are the declared ones, each name's own, and rates agree. Statements.
use Rattle.std.specs.Prelude.{ℕ, ◌≡◌, true, List, ◌∷◌, ◌++◌, length}
use Rattle.orchestra_syntax.specs.Tree.{Instrument}
use Rattle.orchestra_syntax.specs.Names.{Named, names_of, symbols, has, obeys_name_rules, name_rules}
use Rattle.orchestra_syntax.specs.Rates.{rate_of_kind, rate_rules}
use Rattle.orchestra_syntax.specs.inside.Placed as placed
use Rattle.orchestra_syntax.specs.inside.Placed.{speed, place}

-- a name that is declared after us has the place that they leave it, a place of its own, and the rate of its declaration
abbrev pub DeclaredPlaces : Type 0
DeclaredPlaces =
    (x : Instrument) (us : List Named) (m : Named) (vs : List Named) → obeys_name_rules x ≡ true → names_of x ≡ us ++ m ∷ vs
    → (placed.place_of (place (names_of x) m.name) ≡ length us) × (placed.rate_of (place (names_of x) m.name) ≡ speed (rate_of_kind m.kind))

-- two declared names share a place only if they are one name
abbrev pub PlacesApart : Type 0
PlacesApart =
    (x : Instrument) (n p : ℕ) → obeys_name_rules x ≡ true → has n (symbols (names_of x)) ≡ true → has p (symbols (names_of x)) ≡ true
    → placed.place_of (place (names_of x) n) ≡ placed.place_of (place (names_of x) p) → n ≡ p

-- the rate rules agree
abbrev pub RatesAgree : Type 0
RatesAgree = (is : List Instrument) → name_rules is ≡ true → placed.rate_rules is ≡ rate_rules is
