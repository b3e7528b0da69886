use Rattle.score_line.proofs.Parts.{passed, instr-label, instr-instrument, instr-duration, instr-in, symbol-fits}
use Rattle.score_line.proofs.instr_at.Goals as goal

pub returns-in_err-label : goal.returns-in_err-label
returns-in_err-label c =
    passed _ c.from_residual.ensures.1 (search (instr-label, c.in_err-label.ensures))

pub returns-in_err-instrument : goal.returns-in_err-instrument
returns-in_err-instrument c =
    passed _ c.from_residual-in_err-instrument.ensures.1 (search (instr-instrument, c.in_ok-label.ensures, c.in_err-instrument.ensures))

pub returns-in_err-duration : goal.returns-in_err-duration
returns-in_err-duration c =
    passed _ c.from_residual-in_err-duration.ensures.1 (search (instr-duration, c.in_ok-label.ensures, c.in_ok-instrument.ensures, c.in_err-duration.ensures))

pub returns : goal.returns
returns c =
    search (instr-in, c.in_ok-label.ensures, c.in_ok-instrument.ensures, c.in_ok-duration.ensures)

pub overflow_cast-result : goal.overflow_cast-result
overflow_cast-result c =
    symbol-fits _ _ _ _ c.in_ok-instrument.ensures
