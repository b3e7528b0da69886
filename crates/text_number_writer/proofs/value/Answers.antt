use Prim.Native.Nat.{◌^◌}
use native.Mathlib.Omega.{arith}
use lib.Dec.{le→leb}
use lib.Ieee.{in_float}
use Rattle.text_numerals.proofs.Quotient.{ten-mono}
use Rattle.text_number_writer.proofs.ShortestText.{value-minus, value-plain}
use Rattle.text_number_writer.proofs.value.Goals as goal

pub int_to_float-x : goal.int_to_float-x
unfolding in_float
int_to_float-x c =
    le→leb c.args.n (2 ^ 24) (omega (arith, c.requires.0))

pub int_to_float-x-2 : goal.int_to_float-x-2
unfolding in_float
int_to_float-x-2 c =
    le→leb c.power_of_ten-c.result (2 ^ 24) (omega (arith, c.power_of_ten-c.ensures.0, ten-mono c.requires.1))

pub returns-then-minus : goal.returns-then-minus
returns-then-minus c =
    search value-minus

pub returns : goal.returns
returns c =
    search value-plain
