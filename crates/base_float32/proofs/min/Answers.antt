use Rattle.base_float32.specs.Builtins.{min_of}
use Rattle.base_float32.proofs.min.Goals as goal

pub returns-then-y-x : goal.returns-then-y-x
unfolding min_of
returns-then-y-x c =
    simp c.if-y-x.true

pub returns-else-y-x : goal.returns-else-y-x
unfolding min_of
returns-else-y-x c =
    simp c.if-y-x.false
