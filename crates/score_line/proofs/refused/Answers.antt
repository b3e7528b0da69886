use Rattle.score_line.specs.Reading.{refused_line}
use Rattle.score_line.proofs.refused.Goals as goal

pub returns : goal.returns
unfolding refused_line
returns c =
    rw c.blank_line.ensures
