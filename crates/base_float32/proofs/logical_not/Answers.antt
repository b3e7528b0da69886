use Rattle.base_float32.specs.Builtins.{not_of}
use Rattle.base_float32.proofs.logical_not.Goals as goal

pub returns : goal.returns
unfolding not_of
returns c =
    rw (← c.is_true-p.ensures) c.flag.ensures
