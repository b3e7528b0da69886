use borrow.Author.Tests.{eq-eqb, ne_eqb}
use Rattle.midi_messages.specs.inside.Reading.{feed_data}
use Rattle.midi_messages.proofs.feed_data.Goals as goal

pub returns-then-wants-eq1 : goal.returns-then-wants-eq1
unfolding feed_data
returns-then-wants-eq1 c =
    rw c.classify.ensures (search eq-eqb)

pub returns : goal.returns
unfolding feed_data
returns c =
    search ne_eqb
