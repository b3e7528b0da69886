use native.Mathlib.Omega.{arith}
use Rattle.symbol_unpacker.proofs.Steps.{number-below}
use Rattle.symbol_unpacker.proofs.length_at.Goals as goal

pub returns : goal.returns
returns c =
    (c.number_at.ensures, omega (arith, c.number_at.ensures, number-below c.args.s.now c.args.at 4 c.requires))
