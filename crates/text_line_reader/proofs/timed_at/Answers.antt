use Rattle.text_line_reader.proofs.LineParts.{timed-number, timed-gap, timed-event}
use Rattle.text_line_reader.proofs.timed_at.Goals as goal

pub returns-in_err-time : goal.returns-in_err-time
returns-in_err-time c =
    search (timed-number, c.in_err-time.was)

pub returns-in_err-q : goal.returns-in_err-q
returns-in_err-q c =
    search (timed-gap, c.in_ok-time.was, c.in_err-q.was)

pub returns : goal.returns
returns c =
    search (timed-event, c.in_ok-time.was, c.in_ok-q.was)
