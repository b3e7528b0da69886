use Rattle.text_line_writer.proofs.Forms.{line-untimed, line-late, line-cut, line-timed}
use Rattle.text_line_writer.proofs.line_text.Goals as goal

pub returns-then-use_if_late : goal.returns-then-use_if_late
returns-then-use_if_late c =
    search line-late

pub returns-in_err-text-in-Timed : goal.returns-in_err-text-in-Timed
returns-in_err-text-in-Timed c =
    search (line-cut, c.in_err-text-in-Timed.was)

pub returns-in_ok-text-in-Timed : goal.returns-in_ok-text-in-Timed
returns-in_ok-text-in-Timed c =
    search (line-timed, c.in_ok-text-in-Timed.was)

pub returns-in-Untimed : goal.returns-in-Untimed
returns-in-Untimed c =
    search line-untimed
