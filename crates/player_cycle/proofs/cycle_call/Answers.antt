use mathlib.Core.Path.{ap, sym, ◌∙◌}
use Rattle.base_answer.specs.Numbers.{is_taken}
use Rattle.base_answer.specs.declared.Answered.{Answered}
use borrow.Author.Rules.{rules}
use Rattle.player_cycle.proofs.Calling.{cycle-off, cycle-over, cycle-ran, block-stays, block-ran}
use Rattle.player_state.specs.declared.State.{State}
use Rattle.player_cycle.proofs.cycle_call.Goals as goal

pub returns-then-block-ne-SAMPLES : goal.returns-then-block-ne-SAMPLES
returns-then-block-ne-SAMPLES c =
    let e = cycle-off _ _ _ _ _ _ c.if-block-ne-SAMPLES.true _ c.unchanged.ensures in
    record { state = e; block = block-stays _ _ _ _ _ _ _ _ _ e (ap (λ (x : Answered State). is_taken x.answer) c.unchanged.ensures) }

pub returns-then-over : goal.returns-then-over
returns-then-over c =
    let e = cycle-over _ _ _ _ _ _ c.if-block-ne-SAMPLES.false c.if-over.true _ c.unchanged-then-over.ensures in
    record { state = e; block = block-stays _ _ _ _ _ _ _ _ _ e (ap (λ (x : Answered State). is_taken x.answer) c.unchanged-then-over.ensures) }

pub returns : goal.returns
returns c =
    let t = c.one_cycle-next.ensures in
    let e = cycle-ran _ _ _ _ _ _ c.if-block-ne-SAMPLES.false c.if-over.false _ t.state _ c.after.ensures in
    record { state = e; block = block-ran _ _ _ _ _ _ _ _ _ e c.if-block-ne-SAMPLES.false _ t.state c.after.ensures _ t.block }
