use Rattle.player_model.specs.Cycle.{goes_on}
use Rattle.note_lifecycle.proofs.goes_on.Goals as goal

pub returns-then-n : goal.returns-then-n
unfolding goes_on
returns-then-n c =
    rw c.if-n.true

pub returns-in-Some : goal.returns-in-Some
unfolding goes_on
returns-in-Some c =
    rw (c.if-n.false, c.in-Some.is)

pub returns-in-None : goal.returns-in-None
unfolding goes_on
returns-in-None c =
    rw (c.if-n.false, c.in-None.is)
