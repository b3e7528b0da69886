use Rattle.text_line_writer.proofs.Forms.{end-timeless, end-joins}
use Rattle.text_line_writer.proofs.end_text.Goals as goal

pub returns-in_err-timed : goal.returns-in_err-timed
returns-in_err-timed c =
    search (end-timeless, c.in_err-timed.was)

pub returns : goal.returns
returns c =
    search (end-joins, c.in_ok-timed.was)
