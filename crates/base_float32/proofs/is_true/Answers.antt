use Rattle.std.proofs.Common.{refl}
use lib.Ieee.{of_bits, ne}
use Rattle.base_float32.specs.Builtins.{truth}
use Rattle.base_float32.proofs.is_true.Goals as goal

pub returns : goal.returns
unfolding truth ne of_bits
returns c =
    refl
