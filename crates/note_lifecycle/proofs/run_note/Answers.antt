use mathlib.Core.Path.{◌∙◌}
use Rattle.note_lifecycle.proofs.OneNote.{ran-in, mixed-in, area_in}
use Rattle.note_lifecycle.proofs.run_note.Goals as goal

pub returns : goal.returns
returns c =
    let k = c.run_pass-k.ensures in
    let g = c.run_a_passes.ensures in record {
      note = ran-in _ _ _ _ _ _ _ k.same k.note g.note;
      mix = mixed-in _ _ _ _ _ _ _ k.same k.note g.mix;
      same = g.same ∙ k.same;
      room = area_in _ _ _ _ _ _ _ k.same k.note g.room;
    }
