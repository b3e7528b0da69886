-- The text of a float, looked for among all numbers. Definitions only.
use Rattle.std.specs.Prelude.{ℕ, zero, suc, Bool, cond, eqb, Float}
use Rattle.std.proofs.Math.Option.{Option, none, some, map}
use Rattle.std.specs.Float.{binary32}
use Rattle.std.specs.Float.Ieee.{to_bits}
use Rattle.text_numerals.specs.Numeral.{Numeral, most_number, float_of, numeral_of}
use Rattle.text_numerals.specs.Nearest.{sign_of}

-- ---- the same as a function: looked for among all numbers

-- whether the number n with d decimals, and the float's own sign, reads as x
unfoldable pub reads : Float → ℕ → ℕ → Bool
unfolding float_of
reads x d n = eqb (to_bits binary32 (float_of (sign_of x) n d)) (to_bits binary32 x)

abbrev pub or_else : {A : Type 0} → Option A → Option A → Option A
or_else none b = b
or_else (some a) b = some a

-- the smallest number below a bound that passes a test
unfoldable pub smallest : (ℕ → Bool) → ℕ → Option ℕ
smallest test zero = none
smallest test (suc k) = or_else (smallest test k) (cond (test k) (some k) none)

-- the smallest with d decimals
unfoldable pub with_decimals : Float → ℕ → Option Numeral
unfolding smallest
with_decimals x d = map (λ n. numeral_of (sign_of x) n d) (smallest (reads x d) most_number)

-- the fewest decimals, of none to three
unfoldable pub number_text : Float → Option Numeral
unfolding with_decimals
number_text x = or_else (with_decimals x 0) (or_else (with_decimals x 1) (or_else (with_decimals x 2) (with_decimals x 3)))
