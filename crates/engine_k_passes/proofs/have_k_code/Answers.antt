use Prim.Native.Nat.{◌-◌}
use Rattle.engine_k_passes.proofs.Stepping.{looks, looks_on, all-still}
use Rattle.engine_k_passes.proofs.have_k_code.Goals as goal

pub loop-j-init : goal.loop-j-init
loop-j-init c =
    search looks

pub loop-j-preserved : goal.loop-j-preserved
loop-j-preserved c =
    search looks_on

pub returns : goal.returns
returns c =
    search all-still
