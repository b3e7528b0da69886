use Rattle.score_line.proofs.Parts.{passed}
use Rattle.score_line_reader.proofs.Lines.{counted-in, counted-many, counted-no}
use Rattle.score_line_reader.proofs.counted_line.Goals as goal

pub returns-in_err-n : goal.returns-in_err-n
returns-in_err-n c =
    passed _ c.from_residual.ensures.1 (search (counted-no, c.in_err-n.ensures))

pub returns-then-n-gt8 : goal.returns-then-n-gt8
returns-then-n-gt8 c =
    search (counted-many, c.in_ok-n.ensures)

pub returns-else-n-gt8 : goal.returns-else-n-gt8
returns-else-n-gt8 c =
    search (counted-in, c.in_ok-n.ensures)
