use Rattle.std.proofs.Common.{T, sym, subst}
use lib.Ieee.{of_bits}
use Rattle.base_float32.proofs.WholePart.{int_is}
use Rattle.base_float32.proofs.int.Goals as goal

pub returns : goal.returns
unfolding of_bits
returns c =
    rw (c.select_if.ensures, c.select_if-whole.ensures, c.flag.ensures, c.select_if-magnitude.ensures)
    (int_is c.args.x (subst T (sym c.well_formed.0.1) tt))
