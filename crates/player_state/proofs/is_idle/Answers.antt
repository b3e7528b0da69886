use borrow.Author.Rules.{rules}
use Rattle.player_state.proofs.Idle.{past-limit, note-sounds, message-waits, by-due}
use Rattle.player_state.proofs.is_idle.Goals as goal

pub returns-then-position-gt-POSITION_LIMIT : goal.returns-then-position-gt-POSITION_LIMIT
returns-then-position-gt-POSITION_LIMIT c =
    search past-limit

pub returns-then-s-ne0 : goal.returns-then-s-ne0
returns-then-s-ne0 c =
    search note-sounds

pub returns-then-s-ne0-2 : goal.returns-then-s-ne0-2
returns-then-s-ne0-2 c =
    search message-waits

pub returns : goal.returns
returns c =
    search by-due
