use Rattle.text_event_reader.proofs.EventReaders.{end-word, end_is}
use Rattle.text_event_reader.proofs.end_at.Goals as goal

pub returns-in_err-p : goal.returns-in_err-p
returns-in_err-p c =
    search (end-word, c.in_err-p.was)

pub returns : goal.returns
returns c =
    search (end_is, c.in_ok-p.was)
