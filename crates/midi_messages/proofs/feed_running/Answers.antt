use borrow.Author.Tests.{eq-eqb}
use Rattle.midi_messages.specs.inside.Reading.{feed_running}
use Rattle.midi_messages.proofs.OneByte.{resumed-on}
use Rattle.midi_messages.proofs.feed_running.Goals as goal

pub returns-then-status-eq-NO_STATUS : goal.returns-then-status-eq-NO_STATUS
unfolding feed_running
returns-then-status-eq-NO_STATUS c =
    search eq-eqb

pub returns : goal.returns
returns c =
    search resumed-on
