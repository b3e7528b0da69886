-- A number in text (M-100): an optional minus, digits, and optionally a point and one to three decimals; all the digits, read with the point left
-- out, are below 16,777,216. And a name: `s` and the symbol in decimal without leading zeros. Definitions only.
use Rattle.std.specs.Prelude.{ℕ, zero, suc, ◌+◌, ◌*◌, ◌/◌, ◌%◌, ◌^◌, ◌≤◌, ◌<◌, Bool, true, false, cond, List, [], ◌∷◌, ◌++◌, ltb, length, Float}
use Rattle.std.specs.Float.{binary32}
use Rattle.std.specs.Float.Ieee.{round}

-- ---- bytes

abbrev pub minus_sign : ℕ
minus_sign = 45

abbrev pub point : ℕ
point = 46

abbrev pub zero_digit : ℕ
zero_digit = 48

-- the letter s
abbrev pub name_letter : ℕ
name_letter = 115

-- ---- digits, from 0 to 9, the highest first

unfoldable pub Digits : List ℕ → Type 0
Digits [] = Unit {0}
Digits (v ∷ vs) = (v < 10) × Digits vs

unfoldable pub digit_bytes : List ℕ → List ℕ
digit_bytes [] = []
digit_bytes (v ∷ vs) = (zero_digit + v) ∷ digit_bytes vs

-- the number that digits make, behind the number n
unfoldable pub value_from : ℕ → List ℕ → ℕ
value_from n [] = n
value_from n (v ∷ vs) = value_from (n * 10 + v) vs

-- ---- a number

pub record Numeral : Type 0 where
  pub minus : Bool
  pub digits : List ℕ
  pub decimals : List ℕ

-- all the digits as one number are below this
abbrev pub most_number : ℕ
most_number = 16777216

abbrev pub most_decimals : ℕ
most_decimals = 3

-- all the digits, with the point left out
unfoldable pub whole_of : Numeral → ℕ
unfolding value_from
whole_of x = value_from (value_from 0 x.digits) x.decimals

pub record Valid (x : Numeral) : Type 0 where
  pub digits : Digits x.digits
  pub some : 0 < length x.digits
  pub decimals : Digits x.decimals
  pub few : length x.decimals ≤ most_decimals
  pub below : whole_of x < most_number

unfoldable pub sign_bytes : Bool → List ℕ
sign_bytes true = minus_sign ∷ []
sign_bytes false = []

unfoldable pub decimal_bytes : List ℕ → List ℕ
unfolding digit_bytes
decimal_bytes [] = []
decimal_bytes (v ∷ vs) = point ∷ digit_bytes (v ∷ vs)

unfoldable pub encoded : Numeral → List ℕ
unfolding sign_bytes digit_bytes decimal_bytes
encoded x = sign_bytes x.minus ++ (digit_bytes x.digits ++ decimal_bytes x.decimals)

-- the float nearest to n / 10 ^ d (`Nearest` says so, and that there is no tie), its sign bit set by a minus
unfoldable pub float_of : Bool → ℕ → ℕ → Float
float_of minus n d = round binary32 minus n (10 ^ d)

-- what a number in text means
unfoldable pub meaning : Numeral → Float
unfolding float_of whole_of
meaning x = float_of x.minus (whole_of x) (length x.decimals)

-- ---- a whole number in decimal, and a name

-- the k lowest decimal digits of n
unfoldable pub lowest : ℕ → ℕ → List ℕ
lowest zero n = []
lowest (suc k) n = (n / 10 ^ k % 10) ∷ lowest k n

-- how many digits a number below 100,000,000 has; 0 has one
unfoldable pub width_of : ℕ → ℕ
width_of n =
    cond (ltb n 10) 1 (cond (ltb n 100) 2 (cond (ltb n 1000) 3 (cond (ltb n 10000) 4 (cond (ltb n 100000) 5 (cond (ltb n 1000000) 6 (
    cond (ltb n 10000000) 7 8))))))

-- its digits, without leading zeros
unfoldable pub decimal : ℕ → List ℕ
unfolding lowest width_of
decimal n = lowest (width_of n) n

-- the number n with d decimals, as it is written
unfoldable pub numeral_of : Bool → ℕ → ℕ → Numeral
unfolding lowest decimal
numeral_of minus n d = record { minus = minus; digits = decimal (n / 10 ^ d); decimals = lowest d n }

-- no needless leading zeros: a first digit 0 stands alone
abbrev pub NoLeadingZeros : List ℕ → Type 0
NoLeadingZeros [] = Unit {0}
NoLeadingZeros (v ∷ []) = Unit {0}
NoLeadingZeros (v ∷ (w ∷ vs)) = 0 < v

abbrev pub most_symbol : ℕ
most_symbol = 65535

-- the name of a symbol
unfoldable pub name_bytes : ℕ → List ℕ
unfolding digit_bytes decimal
name_bytes symbol = name_letter ∷ digit_bytes (decimal symbol)
