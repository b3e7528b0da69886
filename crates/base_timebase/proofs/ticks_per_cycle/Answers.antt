use Rattle.std.proofs.Common.{false, T, pos, sym, ◌∙◌, subst}
use lib.Ieee.{of_bits, mul, fin, binary32}
use Rattle.base_timebase.specs.Time.{cycle_in}
use Rattle.base_timebase.proofs.Cycle.{Cut, tempo, not-slow, not-fast}
use Rattle.base_timebase.proofs.ticks_per_cycle.Goals as goal

at : (c : goal.Then-tempo-2) → Cut (mul binary32 c.args.tempo (fin false 1 (pos 10))) (cycle_in c.args.tempo)
unfolding of_bits
at c = tempo c.args.tempo (subst T (sym c.well_formed.0.1) tt) c.if-tempo.true c.if-tempo-2.true

pub truncating_f32_to_u64-requires : goal.truncating_f32_to_u64-requires
unfolding of_bits
truncating_f32_to_u64-requires c =
    record { lower_bound = (at c).above; upper_bound = (at c).below }

pub returns-then-tempo-2 : goal.returns-then-tempo-2
unfolding of_bits
returns-then-tempo-2 c =
    c.truncating_f32_to_u64.ensures ∙ (at c.before).is

pub returns-else-tempo-2 : goal.returns-else-tempo-2
unfolding of_bits
returns-else-tempo-2 c =
    not-fast c.args.tempo c.if-tempo-2.false

pub returns-else-tempo : goal.returns-else-tempo
unfolding of_bits
returns-else-tempo c =
    not-slow c.args.tempo c.if-tempo.false
