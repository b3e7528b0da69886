use borrow.Author.Rules.{rules}
use Rattle.player_state.proofs.Idle.{queue-law}
use Rattle.player_state.proofs.queue_after_cycle.Goals as goal

pub returns : goal.returns
returns c =
    queue-law _ _ _ _ c.not_due-k.ensures.0 c.not_due-k.ensures.1
