use Rattle.base_float32.specs.Builtins.{max_of}
use Rattle.base_float32.proofs.max.Goals as goal

pub returns-then-x-y : goal.returns-then-x-y
unfolding max_of
returns-then-x-y c =
    simp c.if-x-y.true

pub returns-else-x-y : goal.returns-else-x-y
unfolding max_of
returns-else-x-y c =
    simp c.if-x-y.false
