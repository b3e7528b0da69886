use native.Mathlib.Omega.{arith}
use Rattle.symbol_unpacker.proofs.Steps.{number-below}
use Rattle.symbol_unpacker.proofs.byte_at.Goals as goal

pub overflow_cast-result : goal.overflow_cast-result
overflow_cast-result c =
    omega (arith, c.number_at.ensures, number-below c.args.s.now c.args.at 8 c.requires)
