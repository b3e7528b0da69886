-- The special values hold, by computing. Assumes nothing.
use mathlib.Core.Path.{refl}
use lib.Ieee.{of_bits, neg, add, sub, mul, div, round, lt, le, eq, ne}
use Rattle.base_float32.specs.Builtins.{abs_of, sgn_of, int_of, frac_of, min_of, max_of, flag_of, truth, either_of, both_of, not_of}
use Rattle.orchestra_semantics.specs.Meaning.{value}
use Rattle.orchestra_special_values.specs.Values.{EveryValueHolds}

pub every-value-holds : EveryValueHolds
unfolding value abs_of sgn_of int_of frac_of min_of max_of flag_of truth either_of both_of not_of neg add sub mul div round of_bits lt le eq ne
every-value-holds = refl
