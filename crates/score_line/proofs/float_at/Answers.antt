use Rattle.score_line.proofs.Parts.{passed, float_in, float_out, float-no}
use Rattle.score_line.proofs.float_at.Goals as goal

pub returns-in_err-b : goal.returns-in_err-b
returns-in_err-b c =
    passed _ c.from_residual.ensures.1 (search (float-no, c.in_err-b.ensures))

pub returns-in_err-x : goal.returns-in_err-x
returns-in_err-x c =
    passed _ c.from_residual-in_err-x.ensures.1 (search (float_out, c.in_ok-b.ensures, c.in_err-x.ensures.value))

pub returns : goal.returns
returns c =
    search (float_in, c.in_ok-b.ensures, c.in_ok-x.ensures.value)
