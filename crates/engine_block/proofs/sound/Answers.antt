use mathlib.Core.Path.{refl, ap, ◌∙◌}
use mathlib.Core.List.{List}
use lib.Ieee.{Float}
use Rattle.engine_limiter.specs.Block.{limited}
use Rattle.player_model.specs.Cycle.{run_all}
use Rattle.engine_block.proofs.sound.Goals as goal

pub returns : goal.returns
unfolding run_all
returns c =
    let g = c.run_notes-held.ensures in
    let a = c.args in record { notes = (refl, g.notes); block = c.limit.ensures.block ∙ ap (λ (m : List Float). limited a.ceiling m a.block.now) g.mix }
