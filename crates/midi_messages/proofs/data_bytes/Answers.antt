use borrow.Author.Tests.{eq-eqb, ne_eqb}
use Rattle.midi_messages.specs.Message.{data_bytes}
use Rattle.midi_messages.proofs.data_bytes.Goals as goal

pub returns-then-kind-eq-PROGRAM : goal.returns-then-kind-eq-PROGRAM
unfolding data_bytes
returns-then-kind-eq-PROGRAM c =
    search eq-eqb

pub returns-then-kind-eq-PRESSURE : goal.returns-then-kind-eq-PRESSURE
unfolding data_bytes
returns-then-kind-eq-PRESSURE c =
    search (eq-eqb, ne_eqb)

pub returns : goal.returns
unfolding data_bytes
returns c =
    search ne_eqb
