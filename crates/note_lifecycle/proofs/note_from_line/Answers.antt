use Rattle.note_lifecycle.proofs.OneNote.{born-law}
use Rattle.note_lifecycle.proofs.note_from_line.Goals as goal

pub returns : goal.returns
returns c =
    born-law _ _ _ _ _ _ _ _ _ c.fresh_values-values.ensures _ c.end_after-end.ensures
    _ c.label_of.ensures _ c.new_note-note.ensures _ c.after_i_pass.ensures
