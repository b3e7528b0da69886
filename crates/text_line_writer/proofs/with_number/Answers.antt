use mathlib.Core.Path.{◌≡◌, sym, subst}
use mathlib.Core.Bool.{true}
use lib.Dec.{T}
use lib.Ieee.{Float, fits, binary32}
use Rattle.text_line_writer.proofs.Pieces.{number-joins, number-lacks}
use Rattle.text_line_writer.proofs.with_number.Goals as goal

-- a float parameter is a value of its format
held : (x : Float) → fits binary32 x ≡ true → T (fits binary32 x)
held x h = subst T (sym h) tt

pub returns-in_err-n : goal.returns-in_err-n
returns-in_err-n c =
    search (number-lacks, held _ c.well_formed.1.0.1, c.in_err-n.was)

pub returns : goal.returns
returns c =
    search (number-joins, c.in_ok-n.was)
