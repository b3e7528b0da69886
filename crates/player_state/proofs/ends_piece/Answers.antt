use borrow.Author.Rules.{rules}
use Rattle.player_state.proofs.Idle.{over-far, over-near}
use Rattle.player_state.proofs.ends_piece.Goals as goal

pub returns-then-position-gt-POSITION_LIMIT : goal.returns-then-position-gt-POSITION_LIMIT
returns-then-position-gt-POSITION_LIMIT c =
    over-far _ _ c.if-position-gt-POSITION_LIMIT.true

pub returns : goal.returns
returns c =
    over-near _ _ c.if-position-gt-POSITION_LIMIT.false _ c.has_end.ensures
