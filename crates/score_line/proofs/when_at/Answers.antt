use Rattle.score_line.proofs.Parts.{passed, when-no, when-timed, when-untimed}
use Rattle.score_line.proofs.when_at.Goals as goal

pub returns-in_err-has_time : goal.returns-in_err-has_time
returns-in_err-has_time c =
    passed _ c.from_residual.ensures.1 (search (when-no, c.in_err-has_time.ensures))

pub returns-then-has_time-eq1 : goal.returns-then-has_time-eq1
returns-then-has_time-eq1 c =
    search (when-timed, c.in_ok-has_time.ensures)

pub returns-else-has_time-eq1 : goal.returns-else-has_time-eq1
returns-else-has_time-eq1 c =
    search (when-untimed, c.in_ok-has_time.ensures)
