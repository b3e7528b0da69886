use borrow.Author.Tests.{le-ltb}
use Rattle.midi_messages.specs.inside.Reading.{feed_status}
use Rattle.midi_messages.proofs.OneByte.{begun-on}
use Rattle.midi_messages.proofs.feed_status.Goals as goal

pub returns-then-b-lt-FIRST_SYSTEM : goal.returns-then-b-lt-FIRST_SYSTEM
returns-then-b-lt-FIRST_SYSTEM c =
    search begun-on

pub returns : goal.returns
unfolding feed_status
returns c =
    search le-ltb
