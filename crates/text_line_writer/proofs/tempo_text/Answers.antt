use Rattle.text_line_writer.proofs.Forms.{tempo-timeless, tempo-joins}
use Rattle.text_line_writer.proofs.tempo_text.Goals as goal

pub returns-in_err-timed : goal.returns-in_err-timed
returns-in_err-timed c =
    search (tempo-timeless, c.in_err-timed.was)

pub returns : goal.returns
returns c =
    search (tempo-joins, c.in_ok-timed.was)
