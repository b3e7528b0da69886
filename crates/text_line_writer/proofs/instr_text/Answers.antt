use Rattle.text_line_writer.proofs.Forms.{instr-timeless, instr-endless, instr-joins}
use Rattle.text_line_writer.proofs.instr_text.Goals as goal

pub returns-in_err-timed : goal.returns-in_err-timed
returns-in_err-timed c =
    search (instr-timeless, c.in_err-timed.was)

pub returns-in_err-lasting : goal.returns-in_err-lasting
returns-in_err-lasting c =
    search (instr-endless, c.in_ok-timed.was, c.in_err-lasting.was)

pub returns : goal.returns
returns c =
    search (instr-joins, c.in_ok-timed.was, c.in_ok-lasting.was)
