use borrow.Author.Tests.{eq-eqb, ne_eqb}
use Rattle.midi_messages.specs.Message.{note_on}
use Rattle.midi_messages.proofs.note_on.Goals as goal

pub returns-then-velocity-eq0 : goal.returns-then-velocity-eq0
unfolding note_on
returns-then-velocity-eq0 c =
    search eq-eqb

pub returns : goal.returns
unfolding note_on
returns c =
    search ne_eqb
