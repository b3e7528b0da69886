use borrow.Author.Tests.{eq-eqb, ne_eqb, lt-ltb, le-ltb}
use Rattle.midi_messages.specs.inside.Reading.{stepped}
use Rattle.midi_messages.proofs.advance.Goals as goal

pub returns-then-b-lt-FIRST_STATUS : goal.returns-then-b-lt-FIRST_STATUS
unfolding stepped
returns-then-b-lt-FIRST_STATUS c =
    search (eq-eqb, lt-ltb)

pub returns-then-p-eq0 : goal.returns-then-p-eq0
unfolding stepped
returns-then-p-eq0 c =
    search (eq-eqb, le-ltb)

pub returns-then-b-lt-FIRST_STATUS-2 : goal.returns-then-b-lt-FIRST_STATUS-2
unfolding stepped
returns-then-b-lt-FIRST_STATUS-2 c =
    search (ne_eqb, lt-ltb)

pub returns : goal.returns
unfolding stepped
returns c =
    search (ne_eqb, le-ltb)
