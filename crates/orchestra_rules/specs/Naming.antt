-- The name rules as a pass over a program, and its names put by their places. A program is given as its operations and their names.
use Rattle.std.specs.Prelude.{ℕ, Bool, true, ◌&&◌, List, [], ◌∷◌}
use Rattle.orchestra_syntax.specs.inside.Program.{op_class_of}
use Rattle.orchestra_syntax.specs.Names.{Named}
use Rattle.orchestra_name_rules.specs.Entries.{valid, names_after, titles_after, placed_name}

unfoldable pub names_from : List ℕ → List ℕ → List ℕ → List Named → Bool
names_from [] ws ts ms = true
names_from (o ∷ os) [] ts ms = true
names_from (o ∷ os) (w ∷ ws) ts ms = valid (op_class_of o) w ts ms && names_from os ws (titles_after (op_class_of o) w ts) (names_after (op_class_of o) o w ms)

unfoldable pub placed_from : List ℕ → List ℕ → List Named → List ℕ
placed_from [] ws ms = ws
placed_from (o ∷ os) [] ms = []
placed_from (o ∷ os) (w ∷ ws) ms = placed_name (op_class_of o) w ms ∷ placed_from os ws (names_after (op_class_of o) o w ms)

-- whether a program keeps the name rules
abbrev pub names_pass : List ℕ → List ℕ → Bool
names_pass os ws = names_from os ws [] []

-- its names, those used by their places
abbrev pub places_pass : List ℕ → List ℕ → List ℕ
places_pass os ws = placed_from os ws []
