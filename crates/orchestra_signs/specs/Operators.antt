-- The operators and calls of expressions, by name: the sign of each, and what it does to 32-bit floats.
use Rattle.std.specs.Prelude.{Float}
use Rattle.std.specs.Float.{binary32}
use Rattle.std.specs.Float.Ieee.{neg, add, sub, mul, div, lt, le, eq, ne}
use Rattle.base_float32.specs.Builtins.{abs_of, sgn_of, int_of, frac_of, min_of, max_of, flag_of, either_of, both_of, not_of}
use Rattle.orchestra_signs.specs.Signs as S
use Rattle.orchestra_signs.specs.Signs.{Sign}

-- with one operand
pub data Unary : Type 0 where
  absolute signum whole fraction not negative : Unary
  deriving Discrete as same_unary

-- with two
pub data Binary : Type 0 where
  least greatest or and equal unequal less greater at_most at_least plus minus times over : Binary
  deriving Discrete as same_binary

abbrev pub unary_sign : Unary → Sign
unary_sign absolute = S.abs
unary_sign signum = S.sgn
unary_sign whole = S.int
unary_sign fraction = S.frac
unary_sign not = S.!
unary_sign negative = S.-

abbrev pub binary_sign : Binary → Sign
binary_sign least = S.min
binary_sign greatest = S.max
binary_sign or = S.||
binary_sign and = S.&&
binary_sign equal = S.==
binary_sign unequal = S.!=
binary_sign less = S.<
binary_sign greater = S.>
binary_sign at_most = S.<=
binary_sign at_least = S.>=
binary_sign plus = S.+
binary_sign minus = S.-
binary_sign times = S.*
binary_sign over = S./

-- "What the code does": each operation rounded once
abbrev pub unary_does : Unary → Float → Float
unary_does absolute x = abs_of x
unary_does signum x = sgn_of x
unary_does whole x = int_of x
unary_does fraction x = frac_of x
unary_does not x = not_of x
unary_does negative x = neg x

abbrev pub binary_does : Binary → Float → Float → Float
binary_does least x y = min_of x y
binary_does greatest x y = max_of x y
binary_does or x y = either_of x y
binary_does and x y = both_of x y
binary_does equal x y = flag_of (eq x y)
binary_does unequal x y = flag_of (ne x y)
binary_does less x y = flag_of (lt x y)
binary_does greater x y = flag_of (lt y x)
binary_does at_most x y = flag_of (le x y)
binary_does at_least x y = flag_of (le y x)
binary_does plus x y = add binary32 x y
binary_does minus x y = sub binary32 x y
binary_does times x y = mul binary32 x y
binary_does over x y = div binary32 x y
