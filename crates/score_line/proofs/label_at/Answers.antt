use Rattle.score_line.proofs.Parts.{passed, label-none, labelled-no, labelled-in, unlabelled, symbol-fits}
use Rattle.score_line.proofs.label_at.Goals as goal

pub returns-in_err-has_label : goal.returns-in_err-has_label
returns-in_err-has_label c =
    passed _ c.from_residual.ensures.1 (search (label-none, c.in_err-has_label.ensures))

pub returns-in_err-label : goal.returns-in_err-label
returns-in_err-label c =
    passed _ c.from_residual-in_err-label.ensures.1 (search (labelled-no, c.in_ok-has_label.ensures, c.in_err-label.ensures))

pub returns-in_ok-label : goal.returns-in_ok-label
returns-in_ok-label c =
    search (labelled-in, c.in_ok-has_label.ensures, c.in_ok-label.ensures)

pub returns-else-has_label-eq1 : goal.returns-else-has_label-eq1
returns-else-has_label-eq1 c =
    search (unlabelled, c.in_ok-has_label.ensures)

pub overflow_cast-result : goal.overflow_cast-result
overflow_cast-result c =
    symbol-fits _ _ _ _ c.in_ok-label.ensures
