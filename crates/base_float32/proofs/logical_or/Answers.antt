use Rattle.base_float32.specs.Builtins.{either_of}
use Rattle.base_float32.proofs.logical_or.Goals as goal

pub returns : goal.returns
unfolding either_of
returns c =
    rw (← c.is_true-p.ensures, ← c.is_true-q.ensures) c.flag.ensures
