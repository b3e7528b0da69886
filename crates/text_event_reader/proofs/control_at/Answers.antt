use Rattle.text_event_reader.proofs.EventReaders.{control-word, control-is}
use Rattle.text_event_reader.proofs.control_at.Goals as goal

pub returns-in_err-p : goal.returns-in_err-p
returns-in_err-p c =
    search (control-word, c.in_err-p.was)

pub returns : goal.returns
returns c =
    search (control-is, c.in_ok-p.was)
