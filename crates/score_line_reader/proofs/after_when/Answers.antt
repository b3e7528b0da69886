use Rattle.score_line.proofs.Parts.{passed}
use Rattle.score_line_reader.proofs.Lines.{line-event, line-event-no, line-type-no, line-priority-no}
use Rattle.score_line_reader.proofs.after_when.Goals as goal

pub returns-in_err-priority : goal.returns-in_err-priority
returns-in_err-priority c =
    passed _ c.from_residual.ensures.1 (search (line-priority-no, c.in_err-priority.ensures))

pub returns-in_err-kind : goal.returns-in_err-kind
returns-in_err-kind c =
    passed _ c.from_residual-in_err-kind.ensures.1 (search (line-type-no, c.in_ok-priority.ensures, c.in_err-kind.ensures))

pub returns-in_err-event : goal.returns-in_err-event
returns-in_err-event c =
    passed _ c.from_residual-in_err-event.ensures.1 (search (line-event-no, c.in_ok-priority.ensures, c.in_ok-kind.ensures, c.in_err-event.ensures))

pub returns : goal.returns
returns c =
    search (line-event, c.in_ok-priority.ensures, c.in_ok-kind.ensures, c.in_ok-event.ensures)
