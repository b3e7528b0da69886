use Prim.Native.Nat.{◌^◌}
use mathlib.Core.Path.{◌∙◌}
use native.Mathlib.Nat.{one-mul}
use native.Mathlib.Omega.{arith}
use lib.Pow.{shl_exact}
use Rattle.base_bitstream.proofs.power.Goals as goal

pub returns : goal.returns
returns c =
    shl_exact {a = 1} 1 c.args.m 32 (omega arith) (omega arith) ∙ one-mul (2 ^ c.args.m)
