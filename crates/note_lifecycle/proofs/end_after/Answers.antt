use mathlib.Core.Path.{sym, ap, ◌∙◌}
use native.Mathlib.Omega.{arith}
use Rattle.std.specs.Prelude.{ℕ, ◌+◌, Some}
use Rattle.base_timebase.proofs.RangesAndTicks.{ticks-most}
use Rattle.player_model.proofs.Lists.{cond-true, cond-false}
use Rattle.note_lifecycle.proofs.OneNote.{minus_one}
use Rattle.note_lifecycle.proofs.end_after.Goals as goal

pub overflow_add-result : goal.overflow_add-result
overflow_add-result c =
    omega (arith, c.beats_to_ticks.ensures, ticks-most c.args.duration, c.requires)

pub returns-then-duration : goal.returns-then-duration
returns-then-duration c =
    sym (cond-true _ _ (sym (minus_one _) ∙ c.if-duration.true))

pub returns-else-duration : goal.returns-else-duration
returns-else-duration c =
    ap (λ (t : ℕ). Some (c.args.position + t)) c.beats_to_ticks.ensures ∙ sym (cond-false _ _ (sym (minus_one _) ∙ c.if-duration.false))
