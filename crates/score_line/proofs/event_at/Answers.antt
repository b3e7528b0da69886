use Rattle.score_line.proofs.Parts.{type-0, type-1, type-4, type-5, type-other}
use Rattle.score_line.proofs.event_at.Goals as goal

pub returns-in-0 : goal.returns-in-0
returns-in-0 c =
    search type-0

pub returns-in-1 : goal.returns-in-1
returns-in-1 c =
    search type-1

pub returns-in-4 : goal.returns-in-4
returns-in-4 c =
    search type-4

pub returns-in-5 : goal.returns-in-5
returns-in-5 c =
    search type-5

pub returns-in_default : goal.returns-in_default
returns-in_default c =
    search type-other
