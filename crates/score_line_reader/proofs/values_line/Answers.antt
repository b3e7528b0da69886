use Rattle.score_line.proofs.Parts.{passed}
use lib.Ieee.{of_bits}
use Rattle.score_line_reader.proofs.Lines.{starts, again, stops, ends}
use Rattle.score_line_reader.proofs.values_line.Goals as goal

pub loop-i-init : goal.loop-i-init
unfolding of_bits
loop-i-init c =
    search starts

pub returns-in_err-x : goal.returns-in_err-x
returns-in_err-x c =
    passed _ c.from_residual.ensures.1 (search (stops, c.in_err-x.ensures))

pub loop-i-preserved : goal.loop-i-preserved
loop-i-preserved c =
    search (again, c.in_ok-x.ensures)

pub returns : goal.returns
unfolding of_bits
returns c =
    search ends
