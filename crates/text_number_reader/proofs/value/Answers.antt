use Prim.Native.Nat.{◌^◌, ◌<◌}
use native.Mathlib.Omega.{arith}
use lib.Dec.{le→leb}
use lib.Ieee.{in_float}
use Rattle.text_number_reader.proofs.Readers.{value-minus, value-plain}
use Rattle.text_number_reader.proofs.value.Goals as goal

pub int_to_float-x : goal.int_to_float-x
unfolding in_float
int_to_float-x c =
    le→leb c.args.n (2 ^ 24) (let h : c.args.n < 16777216 = c.requires.0 in omega arith)

pub returns-then-minus : goal.returns-then-minus
returns-then-minus c =
    search value-minus

pub returns : goal.returns
returns c =
    search value-plain
