use mathlib.Core.Path.{◌≡◌, sym, ◌∙◌}
use lib.ListN.{length, length-map}
use native.Mathlib.Omega.{arith}
use borrow.Author.Rules.{rules}
use Rattle.player_model.proofs.Loops.{take-over}
use Rattle.player_state.specs.States.{stopped}
use Rattle.player_state.proofs.Idle.{near-law, rest-near}
use Rattle.player_cycle.proofs.Stepping.{cycle-stops, cycle-plays, block-stays, block-plays}
use Rattle.player_cycle.proofs.Idle.{rest-law, rest-block}
use Rattle.player_cycle.proofs.one_cycle.Goals as goal

pub idle_cycle-requires : goal.idle_cycle-requires
idle_cycle-requires c =
    rest-near _ (sym c.is_idle.ensures ∙ c.if-is_idle.true)

pub returns-then-is_idle : goal.returns-then-is_idle
returns-then-is_idle c =
    let h = sym c.is_idle.ensures ∙ c.if-is_idle.true in
    let long : length c.args.s.queue.lines ≡ 64 = c.well_formed.1.1.1.0.1.1.0.1.1.0.1.0.1 in
    record { state = c.idle_cycle.ensures.state ∙ rest-law _ _ _ h long (omega (arith, c.well_formed)); block = c.idle_cycle.ensures.block ∙ rest-block _ _ _ h _ }

pub returns-then-ends_piece : goal.returns-then-ends_piece
unfolding stopped
returns-then-ends_piece c =
    let d = c.due_lines-due.ensures in
    let due = take-over _ _ d.0 d.1 in
    let over = c.ends_piece.ensures in
    record { state = cycle-stops _ _ _ _ _ _ due _ over c.if-ends_piece.true; block = block-stays _ _ _ _ _ _ due _ over _ c.if-ends_piece.true }

pub advance-next-requires : goal.advance-next-requires
advance-next-requires c =
    near-law _ _ (sym c.ends_piece.ensures ∙ c.if-ends_piece.false)

pub returns : goal.returns
returns c =
    let d = c.due_lines-due.ensures in
    let due = take-over _ _ d.0 d.1 in
    let over = c.ends_piece.ensures in
    let left = c.advance-next.ensures in
    record { state = cycle-plays _ _ _ _ _ _ due _ over c.if-ends_piece.false _ left.playing _ c.queue_after_cycle.ensures _ c.emptied.ensures; block = block-plays _ _ _ _ _ _ due _ over _ c.if-ends_piece.false _ left.block }
