-- What nearest means. Definitions and statements only.
use Rattle.std.specs.Prelude.{ℕ, ◌+◌, ◌-◌, ◌*◌, ◌^◌, ◌≤◌, ◌<◌, ◌≡◌, Bool, false, cond, T, Float}
use Rattle.std.specs.Bool.{beq}
use Rattle.std.specs.Float.{nan, inf, fin, binary32}
use Rattle.std.specs.Float.Ieee.{up, down, eq, fits}
use Rattle.std.specs.Float.Ieee.Scale.{finite}
use Rattle.std.specs.Float.Ieee.Positive.{den}
use Rattle.text_numerals.specs.Numeral.{most_number, most_decimals, float_of}

unfoldable pub sign_of : Float → Bool
sign_of nan = false
sign_of (inf s) = s
sign_of (fin s m e) = s

-- how far the number n / c, below zero with a minus, is from the number that y is, times c * den y
unfoldable pub apart : Bool → ℕ → ℕ → Float → ℕ
apart minus n c nan = 0
apart minus n c (inf s) = 0
apart minus n c (fin s m e) = cond (beq minus s) ((n * down e - m * up e * c) + (m * up e * c - n * down e)) (n * down e + m * up e * c)

-- x is a finite float, its sign bit set by a minus, and every other finite float is farther: none is as near, so that ties to even decides nothing
pub record Nearest (minus : Bool) (n c : ℕ) (x : Float) : Type 0 where
  pub held : T (fits binary32 x)
  pub number : T (finite x)
  pub sign : sign_of x ≡ minus
  pub nearer : (y : Float) → T (fits binary32 y) → T (finite y) → eq x y ≡ false → apart minus n c x * den y < apart minus n c y * den x

-- what a number in text means, with a minus and without, is the nearest float
abbrev pub MeansNearest : Type 0
MeansNearest = (minus : Bool) (n d : ℕ) → n < most_number → d ≤ most_decimals → Nearest minus n (10 ^ d) (float_of minus n d)
