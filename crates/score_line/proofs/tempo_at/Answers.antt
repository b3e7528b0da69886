use Rattle.score_line.proofs.Parts.{passed, tempo-no, tempo-in}
use Rattle.score_line.proofs.tempo_at.Goals as goal

pub returns-in_err-tempo : goal.returns-in_err-tempo
returns-in_err-tempo c =
    passed _ c.from_residual.ensures.1 (search (tempo-no, c.in_err-tempo.ensures))

pub returns : goal.returns
returns c =
    search (tempo-in, c.in_ok-tempo.ensures)
