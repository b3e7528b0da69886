use Rattle.std.proofs.Common.{sym, ◌∙◌, ne_eqb}
use mathlib.Core.Bool.{or-false}
use lib.Ieee.{of_bits, neg, le}
use Rattle.base_timebase.specs.Time.{duration_bits, time_bits}
use Rattle.base_timebase.specs.inside.Range.{checked}
use Rattle.base_timebase.proofs.duration_of.Goals as goal

pub returns-then-b-eq3212836864 : goal.returns-then-b-eq3212836864
unfolding checked of_bits neg duration_bits time_bits le
returns-then-b-eq3212836864 c =
    rw c.if-b-eq3212836864.true

pub returns : goal.returns
unfolding duration_bits
returns c =
    c.time_of.ensures ∙ sym (rw (ne_eqb _ _ c.if-b-eq3212836864.false, or-false))
