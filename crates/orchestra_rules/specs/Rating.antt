-- The rate rules as a pass over a program whose names are put by their places.
use Rattle.std.specs.Prelude.{ℕ, Bool, true, ◌&&◌, List, [], ◌∷◌}
use Rattle.orchestra_syntax.specs.inside.Program.{op_class_of}
use Rattle.orchestra_rate_rules.specs.declared.Rates.{Rates}
use Rattle.orchestra_rate_rules.specs.Change.{rates, rates_valid, rates_after}

unfoldable pub rates_from : List ℕ → List ℕ → Rates → Bool
rates_from [] ws q = true
rates_from (o ∷ os) [] q = true
rates_from (o ∷ os) (w ∷ ws) q = rates_valid (op_class_of o) w q && rates_from os ws (rates_after (op_class_of o) w q)

-- whether a program keeps the rate rules
abbrev pub rates_pass : List ℕ → List ℕ → Bool
rates_pass os ws = rates_from os ws (rates 0 0 0)
