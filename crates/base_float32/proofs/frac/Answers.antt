use Rattle.base_float32.specs.Builtins.{frac_of}
use Rattle.base_float32.proofs.frac.Goals as goal

pub returns : goal.returns
unfolding frac_of
returns c =
    rw c.int.ensures
