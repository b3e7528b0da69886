use Rattle.base_numbers.proofs.Bits.{no_nan, nan-bits}
use Rattle.base_numbers.proofs.float_bits.Goals as goal

pub float_to_bits-result : goal.float_to_bits-result
float_to_bits-result c =
    search no_nan

pub returns : goal.returns
returns c =
    search nan-bits
