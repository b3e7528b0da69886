use Rattle.score_line.proofs.Parts.{passed}
use Rattle.score_line_reader.proofs.Lines.{line-when, line-when-no}
use Rattle.score_line_reader.proofs.line_from.Goals as goal

pub returns-in_err-when : goal.returns-in_err-when
returns-in_err-when c =
    passed _ c.from_residual.ensures.1 (search (line-when-no, c.in_err-when.ensures))

pub returns : goal.returns
returns c =
    search (line-when, c.in_ok-when.ensures)
