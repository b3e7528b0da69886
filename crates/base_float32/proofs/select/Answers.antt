use Rattle.base_float32.specs.Builtins.{select_of}
use Rattle.base_float32.proofs.select.Goals as goal

pub returns-then-is_true : goal.returns-then-is_true
unfolding select_of
returns-then-is_true c =
    rw (← c.is_true.ensures, c.if-is_true.true)

pub returns-else-is_true : goal.returns-else-is_true
unfolding select_of
returns-else-is_true c =
    rw (← c.is_true.ensures, c.if-is_true.false)
