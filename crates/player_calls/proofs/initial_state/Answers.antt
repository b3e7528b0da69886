use borrow.Author.Rules.{rules}
use Rattle.player_calls.specs.OnState.{empty_note}
use Rattle.player_calls.proofs.Calling.{start-law}
use Rattle.player_calls.proofs.initial_state.Goals as goal

pub returns : goal.returns
unfolding empty_note
returns c =
    start-law _ _ _ c.blank_line-line.ensures _ c.new_note-note.ensures _ c.no_messages-messages.ensures
