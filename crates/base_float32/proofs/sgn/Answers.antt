use Rattle.base_float32.specs.Builtins.{sgn_of}
use lib.Ieee.{of_bits, neg}
use Rattle.base_float32.proofs.sgn.Goals as goal

pub returns-then-x : goal.returns-then-x
unfolding sgn_of of_bits neg
returns-then-x c =
    simp c.if-x.true

pub returns-then-x-2 : goal.returns-then-x-2
unfolding sgn_of of_bits neg
returns-then-x-2 c =
    simp (c.if-x.false, c.if-x-2.true)

pub returns : goal.returns
unfolding sgn_of of_bits neg
returns c =
    simp (c.if-x.false, c.if-x-2.false)
