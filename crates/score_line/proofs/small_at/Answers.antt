use Rattle.score_line.proofs.Parts.{passed, small-no, small-in, small-out}
use Rattle.score_line.proofs.small_at.Goals as goal

pub returns-in_err-v : goal.returns-in_err-v
returns-in_err-v c =
    passed _ c.from_residual.ensures.1 (search (small-no, c.in_err-v.ensures))

pub returns-then-v-most : goal.returns-then-v-most
returns-then-v-most c =
    search (small-in, c.in_ok-v.ensures)

pub returns-else-v-most : goal.returns-else-v-most
returns-else-v-most c =
    search (small-out, c.in_ok-v.ensures)
