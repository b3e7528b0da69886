use borrow.Author.Tests.{eq-eqb, ne_eqb}
use Rattle.midi_messages.specs.Message.{classified}
use Rattle.midi_messages.proofs.classify.Goals as goal

pub returns-then-kind-eq-NOTE_OFF : goal.returns-then-kind-eq-NOTE_OFF
unfolding classified
returns-then-kind-eq-NOTE_OFF c =
    search eq-eqb

pub returns-then-kind-eq-NOTE_ON : goal.returns-then-kind-eq-NOTE_ON
unfolding classified
returns-then-kind-eq-NOTE_ON c =
    search (eq-eqb, ne_eqb)

pub returns : goal.returns
unfolding classified
returns c =
    search ne_eqb
