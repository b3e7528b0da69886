use Rattle.text_event_reader.proofs.EventReaders.{named-gap, named-control, named-instr}
use Rattle.text_event_reader.proofs.named_at.Goals as goal

pub returns-in_err-p : goal.returns-in_err-p
returns-in_err-p c =
    search (named-gap, c.in_err-p.was)

pub returns-then-starts_with : goal.returns-then-starts_with
returns-then-starts_with c =
    search (named-control, c.in_ok-p.was)

pub returns : goal.returns
returns c =
    search (named-instr, c.in_ok-p.was)
