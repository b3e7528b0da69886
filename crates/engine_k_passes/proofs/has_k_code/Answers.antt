use native.Mathlib.Omega.{arith}
use Rattle.engine_k_passes.proofs.Stepping.{still-without}
use Rattle.engine_k_passes.proofs.has_k_code.Goals as goal

pub returns : goal.returns
returns c =
    λ _. still-without _ _ (omega arith) c.if-i.false
