use Rattle.score_line.proofs.Parts.{passed, timed-late, timed-time, timed-in}
use Rattle.score_line.proofs.timed_at.Goals as goal

pub returns-in_err-late : goal.returns-in_err-late
returns-in_err-late c =
    passed _ c.from_residual.ensures.1 (search (timed-late, c.in_err-late.ensures))

pub returns-in_err-time : goal.returns-in_err-time
returns-in_err-time c =
    passed _ c.from_residual-in_err-time.ensures.1 (search (timed-time, c.in_ok-late.ensures, c.in_err-time.ensures))

pub returns : goal.returns
returns c =
    search (timed-in, c.in_ok-late.ensures, c.in_ok-time.ensures)
