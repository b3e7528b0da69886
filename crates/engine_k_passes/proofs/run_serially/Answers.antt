use Prim.Native.Nat.{◌-◌}
use Rattle.engine_k_passes.proofs.Stepping.{steps, steps_on, stepped, stepped-behind}
use Rattle.engine_k_passes.proofs.run_serially.Goals as goal

pub loop-j-init : goal.loop-j-init
loop-j-init c =
    search steps

pub loop-j-preserved : goal.loop-j-preserved
loop-j-preserved c =
    search steps_on

pub returns : goal.returns
returns c =
    record { notes = search stepped; behind = search stepped-behind }
