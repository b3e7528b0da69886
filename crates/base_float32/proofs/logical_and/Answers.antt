use Rattle.base_float32.specs.Builtins.{both_of}
use Rattle.base_float32.proofs.logical_and.Goals as goal

pub returns : goal.returns
unfolding both_of
returns c =
    rw (← c.is_true-p.ensures, ← c.is_true-q.ensures) c.flag.ensures
