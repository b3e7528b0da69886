-- Document 01, "What the code does", where not-a-number, an infinity or a zero comes in: what expressions of numbers are worth, as one table with one
-- statement.
use Rattle.std.specs.Prelude.{ℕ, ◌≡◌, List, [], ◌∷◌, map, Float}
use Rattle.std.specs.Float.{nan, binary32}
use Rattle.std.specs.Float.Ieee.{of_bits}
use Rattle.orchestra_signs.specs.Operators as O
use Rattle.orchestra_syntax.specs.Tree.{Expr, number, unary, binary, choose}
use Rattle.orchestra_semantics.specs.Meaning.{Environment, value}

-- ---- floats by their bits

abbrev plus_zero : Float
plus_zero = of_bits binary32 0

abbrev minus_zero : Float
minus_zero = of_bits binary32 0x8000_0000

abbrev one : Float
one = of_bits binary32 0x3f80_0000

abbrev minus_one : Float
minus_one = of_bits binary32 0xbf80_0000

abbrev minus_half : Float
minus_half = of_bits binary32 0xbf00_0000

-- 3.4028235 * 10 ^ 38
abbrev largest : Float
largest = of_bits binary32 0x7f7f_ffff

abbrev infinity : Float
infinity = of_bits binary32 0x7f80_0000

abbrev minus_infinity : Float
minus_infinity = of_bits binary32 0xff80_0000

-- ---- the table

pub record Row : Type 0 where
  pub asked : Expr
  -- what document 01 says that it is
  pub said : Float

-- an operator or call on one number, on two, and a choice between 1 and -1
abbrev on : O.Unary → Float → Float → Row
on o x y = record { asked = unary o (number x); said = y }

abbrev of : O.Binary → Float → Float → Float → Row
of o x y z = record { asked = binary o (number x) (number y); said = z }

abbrev by : Float → Float → Row
by x y = record { asked = choose (number x) (number one) (number minus_one); said = y }

abbrev pub table : List Row
table =
    -- anything not equal to 0 counts as true, not-a-number included
    on O.not nan plus_zero
    ∷ on O.not minus_zero one
    ∷ of O.and nan one one
    ∷ of O.and one minus_zero plus_zero
    ∷ of O.or nan plus_zero one
    ∷ of O.or minus_zero minus_zero plus_zero
    ∷ by nan one
    ∷ by minus_zero minus_one
    -- not-a-number is unequal to everything and in no order; the zeros are equal
    ∷ of O.equal nan nan plus_zero
    ∷ of O.unequal nan nan one
    ∷ of O.less nan one plus_zero
    ∷ of O.greater nan one plus_zero
    ∷ of O.at_most nan nan plus_zero
    ∷ of O.at_least nan nan plus_zero
    ∷ of O.equal plus_zero minus_zero one
    ∷ of O.less minus_zero plus_zero plus_zero
    -- min is y if y < x, else x; max is y if x < y, else x
    ∷ of O.least nan one nan
    ∷ of O.least one nan one
    ∷ of O.greatest nan one nan
    ∷ of O.greatest one nan one
    ∷ of O.least plus_zero minus_zero plus_zero
    ∷ of O.greatest minus_zero plus_zero minus_zero
    -- abs clears the sign
    ∷ on O.absolute minus_zero plus_zero
    ∷ on O.absolute minus_infinity infinity
    ∷ on O.absolute nan nan
    -- sgn gives 1, -1 or +0, and +0 for not-a-number
    ∷ on O.signum nan plus_zero
    ∷ on O.signum minus_zero plus_zero
    ∷ on O.signum minus_infinity minus_one
    -- int drops the fraction; a zero answer is +0, infinities and not-a-number stay
    ∷ on O.whole minus_half plus_zero
    ∷ on O.whole minus_zero plus_zero
    ∷ on O.whole infinity infinity
    ∷ on O.whole minus_infinity minus_infinity
    ∷ on O.whole nan nan
    -- frac(x) is x minus int(x)
    ∷ on O.fraction infinity nan
    ∷ on O.fraction minus_zero minus_zero
    ∷ on O.fraction minus_half minus_half
    -- division by zero, and what else IEEE 754 gives
    ∷ of O.over plus_zero plus_zero nan
    ∷ of O.over one plus_zero infinity
    ∷ of O.over one minus_zero minus_infinity
    ∷ of O.over one minus_infinity minus_zero
    ∷ of O.minus infinity infinity nan
    ∷ of O.times plus_zero infinity nan
    ∷ of O.plus largest largest infinity
    ∷ of O.plus minus_zero plus_zero plus_zero
    -- unary minus turns the sign
    ∷ on O.negative plus_zero minus_zero
    ∷ on O.negative minus_zero plus_zero
    ∷ on O.negative infinity minus_infinity
    ∷ on O.negative nan nan
    ∷ []

-- no expression of the table has a name
abbrev nameless : Environment
nameless = record { values = λ n. plus_zero }

-- every row's expression is worth what is said
abbrev pub EveryValueHolds : Type 0
EveryValueHolds = map (λ (r : Row). value nameless r.asked) table ≡ map (λ (r : Row). r.said) table
