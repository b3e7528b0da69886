use mathlib.Core.Path.{◌≡◌, sym, subst}
use mathlib.Core.Bool.{true}
use lib.Dec.{T}
use lib.Ieee.{Float, fits, binary32}
use Rattle.text_number_writer.proofs.ShortestText.{first, second, neither}
use Rattle.text_number_writer.proofs.least.Goals as goal

-- a float parameter is a value of its format
held : (x : Float) → fits binary32 x ≡ true → T (fits binary32 x)
held x h = subst T (sym h) tt

pub returns-then-reads : goal.returns-then-reads
returns-then-reads c =
    search (first, held _ c.well_formed.0.1)

pub returns-then-reads-2 : goal.returns-then-reads-2
returns-then-reads-2 c =
    search (second, held _ c.well_formed.0.1)

pub returns : goal.returns
returns c =
    search neither
