use Rattle.score_line.proofs.Parts.{passed, control-label, control-variable, control-value, control-in, symbol-fits}
use Rattle.score_line.proofs.labelled_at.Goals as goal

pub returns-in_err-label : goal.returns-in_err-label
returns-in_err-label c =
    passed _ c.from_residual.ensures.1 (search (control-label, c.in_err-label.ensures))

pub returns-in_err-variable : goal.returns-in_err-variable
returns-in_err-variable c =
    passed _ c.from_residual-in_err-variable.ensures.1 (search (control-variable, c.in_ok-label.ensures, c.in_err-variable.ensures))

pub returns-in_err-value : goal.returns-in_err-value
returns-in_err-value c =
    passed _ c.from_residual-in_err-value.ensures.1 (search (control-value, c.in_ok-label.ensures, c.in_ok-variable.ensures, c.in_err-value.ensures))

pub returns : goal.returns
returns c =
    search (control-in, c.in_ok-label.ensures, c.in_ok-variable.ensures, c.in_ok-value.ensures)

pub overflow_cast-result : goal.overflow_cast-result
overflow_cast-result c =
    symbol-fits _ _ _ _ c.in_ok-label.ensures

pub overflow_cast-result-2 : goal.overflow_cast-result-2
overflow_cast-result-2 c =
    symbol-fits _ _ _ _ c.in_ok-variable.ensures
