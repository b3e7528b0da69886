use Rattle.text_event_reader.proofs.EventReaders.{instr-number, instr-cut, instr-is}
use Rattle.text_event_reader.proofs.instr_at.Goals as goal

pub returns-in_err-duration : goal.returns-in_err-duration
returns-in_err-duration c =
    search (instr-number, c.in_err-duration.was)

pub returns-in_err-kept : goal.returns-in_err-kept
returns-in_err-kept c =
    search (instr-cut, c.in_ok-duration.was, c.in_err-kept.was)

pub returns : goal.returns
returns c =
    search (instr-is, c.in_ok-duration.was, c.in_ok-kept.was)
