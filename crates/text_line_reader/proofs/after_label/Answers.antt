use Rattle.text_line_reader.proofs.LineParts.{label-colon, label-time, label-name, label-instr}
use Rattle.text_line_reader.proofs.after_label.Goals as goal

pub returns-in_err-p : goal.returns-in_err-p
returns-in_err-p c =
    search (label-colon, c.in_err-p.was)

pub returns-in_err-time : goal.returns-in_err-time
returns-in_err-time c =
    search (label-time, c.in_ok-p.was, c.in_err-time.was)

pub returns-in_err-name : goal.returns-in_err-name
returns-in_err-name c =
    search (label-name, c.in_ok-p.was, c.in_ok-time.was, c.in_err-name.was)

pub returns : goal.returns
returns c =
    search (label-instr, c.in_ok-p.was, c.in_ok-time.was, c.in_ok-name.was)
