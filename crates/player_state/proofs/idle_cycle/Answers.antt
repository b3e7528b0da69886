use native.Mathlib.Omega.{arith}
use borrow.Author.Rules.{rules}
use Rattle.base_timebase.proofs.RangesAndTicks.{cycle-most}
use Rattle.player_state.specs.States.{silence}
use Rattle.player_state.proofs.Idle.{rested-law}
use Rattle.player_state.proofs.idle_cycle.Goals as goal

pub overflow_add-next : goal.overflow_add-next
overflow_add-next c =
    omega (arith, c.ticks_per_cycle-step.ensures, cycle-most c.args.s.playing.tempo, c.requires)

pub returns : goal.returns
unfolding silence
returns c =
    record { state = rested-law _ _ c.ticks_per_cycle-step.ensures _ c.min-waiting.ensures; block = c.limit.ensures.block }
