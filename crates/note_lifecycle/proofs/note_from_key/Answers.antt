use Rattle.note_lifecycle.proofs.OneNote.{pressed-law}
use Rattle.note_lifecycle.proofs.note_from_key.Goals as goal

pub returns : goal.returns
returns c =
    pressed-law _ _ _ _ _ _ c.frequency.ensures.is _ c.normalized_velocity.ensures.is _ c.fresh_values-values.ensures
    _ c.new_note-note.ensures _ c.after_i_pass.ensures
