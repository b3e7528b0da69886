use Rattle.std.proofs.Common.{rules}
use lib.Ieee.{of_bits, neg}
use Rattle.base_float32.proofs.Magnitude.{held-large, held_none, held-range}
use Rattle.base_float32.proofs.size.Goals as goal

pub truncating_f32_to_u64-n-requires : goal.truncating_f32_to_u64-n-requires
unfolding of_bits neg
truncating_f32_to_u64-n-requires c =
    search (held-range, rules)

pub returns-else-y-2 : goal.returns-else-y-2
unfolding of_bits neg
returns-else-y-2 c =
    search held-large

pub returns : goal.returns
unfolding of_bits neg
returns c =
    search held_none
