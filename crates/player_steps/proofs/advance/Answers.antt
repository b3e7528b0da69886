use native.Mathlib.Omega.{arith}
use borrow.Author.Rules.{rules}
use Rattle.base_timebase.proofs.RangesAndTicks.{cycle-most}
use Rattle.player_steps.proofs.Steps.{advance-law}
use Rattle.player_steps.proofs.advance.Goals as goal

pub overflow_add-result : goal.overflow_add-result
overflow_add-result c =
    omega (arith, c.ticks_per_cycle-step.ensures, cycle-most c.tempo_after-tempo.result, c.requires)

pub returns : goal.returns
returns c =
    let t = c.perform-t.ensures in
    record { playing = advance-law _ _ _ _ _ _ _ _ _ t.notes _ c.tempo_after-tempo.ensures _ c.ticks_per_cycle-step.ensures; block = t.block }
