use Rattle.text_event_reader.proofs.EventReaders.{event-name, event-named, event-control, event-tempo, event-end}
use Rattle.text_event_reader.proofs.event_at.Goals as goal

pub returns-in_err-name : goal.returns-in_err-name
returns-in_err-name c =
    search (event-name, c.in_err-name.was)

pub returns-then-starts_with : goal.returns-then-starts_with
returns-then-starts_with c =
    search (event-named, c.in_ok-name.was)

pub returns-then-starts_with-2 : goal.returns-then-starts_with-2
returns-then-starts_with-2 c =
    search event-control

pub returns-then-starts_with-3 : goal.returns-then-starts_with-3
returns-then-starts_with-3 c =
    search event-tempo

pub returns : goal.returns
returns c =
    search event-end
