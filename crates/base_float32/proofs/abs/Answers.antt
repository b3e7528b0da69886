use Rattle.std.proofs.Common.{T, sym, subst}
use lib.Ieee.{of_bits}
use Rattle.base_float32.proofs.Sign.{abs_is}
use Rattle.base_float32.proofs.abs.Goals as goal

pub returns : goal.returns
unfolding of_bits
returns c =
    rw (c.select_if.ensures, c.select_if-magnitude.ensures) (abs_is c.args.x (subst T (sym c.well_formed.0.1) tt))
