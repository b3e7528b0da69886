use Rattle.base_float32.specs.Builtins.{flag_of}
use lib.Ieee.{of_bits}
use Rattle.base_float32.proofs.flag.Goals as goal

pub returns-then-b : goal.returns-then-b
unfolding flag_of of_bits
returns-then-b c =
    simp c.if-b.true

pub returns-else-b : goal.returns-else-b
unfolding flag_of of_bits
returns-else-b c =
    simp c.if-b.false
