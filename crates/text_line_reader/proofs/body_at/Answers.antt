use Rattle.text_line_reader.proofs.LineParts.{body-name, body-labelled, body-timed}
use Rattle.text_line_reader.proofs.body_at.Goals as goal

pub returns-in_err-label : goal.returns-in_err-label
returns-in_err-label c =
    search (body-name, c.in_err-label.was)

pub returns-then-starts_with : goal.returns-then-starts_with
returns-then-starts_with c =
    search (body-labelled, c.in_ok-label.was)

pub returns : goal.returns
returns c =
    search body-timed
