use Rattle.score_line.proofs.Parts.{passed, control-no, control-labelled, control-unlabelled}
use Rattle.score_line.proofs.control_at.Goals as goal

pub returns-in_err-has_label : goal.returns-in_err-has_label
returns-in_err-has_label c =
    passed _ c.from_residual.ensures.1 (search (control-no, c.in_err-has_label.ensures))

pub returns-then-has_label-eq1 : goal.returns-then-has_label-eq1
returns-then-has_label-eq1 c =
    search (control-labelled, c.in_ok-has_label.ensures)

pub returns-else-has_label-eq1 : goal.returns-else-has_label-eq1
returns-else-has_label-eq1 c =
    search (control-unlabelled, c.in_ok-has_label.ensures)
