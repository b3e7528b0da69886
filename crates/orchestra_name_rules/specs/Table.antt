-- Tables of names as the passes hold them: arrays of which the first ones are filled.
use Rattle.std.specs.Prelude.{ℕ, suc, cond, List, [], ◌∷◌, take, drop, get_or, eqb}
use Rattle.orchestra_syntax.specs.Names.{Named}

-- names with their kinds beside them
unfoldable pub own_of : List ℕ → List ℕ → List Named
own_of [] ks = []
own_of (w ∷ ws) ks = record { name = w; kind = get_or ks 0 0 } ∷ own_of ws (drop 1 ks)

-- the place of the first word that is s; as many as there are words if none is
unfoldable pub seek_in : List ℕ → ℕ → ℕ
seek_in [] s = 0
seek_in (w ∷ ws) s = cond (eqb w s) 0 (suc (seek_in ws s))

-- the names of an instrument: the first words of one table, with their kinds in another
abbrev pub own : List ℕ → List ℕ → ℕ → List Named
own symbols kinds count = own_of (take count symbols) kinds
