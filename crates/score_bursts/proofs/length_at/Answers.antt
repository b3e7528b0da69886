use Rattle.score_bursts.proofs.Walk.{few, past, there}
use Rattle.score_bursts.proofs.length_at.Goals as goal

pub returns-then-s-lt-LENGTH_BYTES : goal.returns-then-s-lt-LENGTH_BYTES
returns-then-s-lt-LENGTH_BYTES c =
    search few

pub returns-then-s-at : goal.returns-then-s-at
returns-then-s-at c =
    search past

pub returns : goal.returns
returns c =
    search there
