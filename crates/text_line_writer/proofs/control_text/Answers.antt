use Rattle.text_line_writer.proofs.Forms.{control-timeless, control-joins}
use Rattle.text_line_writer.proofs.control_text.Goals as goal

pub returns-in_err-timed : goal.returns-in_err-timed
returns-in_err-timed c =
    search (control-timeless, c.in_err-timed.was)

pub returns : goal.returns
returns c =
    search (control-joins, c.in_ok-timed.was)
