use Rattle.engine_mixing.proofs.OneOutput.{one-output}
use Rattle.engine_mixing.proofs.mix_outputs.Goals as goal

pub returns-then-rows-gt0 : goal.returns-then-rows-gt0
returns-then-rows-gt0 c =
    search one-output
