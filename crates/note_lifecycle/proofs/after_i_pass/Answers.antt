use Rattle.note_lifecycle.proofs.OneNote.{begun-law}
use Rattle.note_lifecycle.proofs.after_i_pass.Goals as goal

pub returns : goal.returns
returns c =
    begun-law _ _ _ _ c.working_area-room.ensures _ c.run_pass.ensures.note
