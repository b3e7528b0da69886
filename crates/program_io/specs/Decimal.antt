-- A whole number in decimal digits. Definitions only.
use Rattle.std.specs.Prelude.{ℕ, ◌+◌, ◌-◌, ◌*◌, Bool, cond, ◌&&◌, List, [], ◌∷◌, nat_le, nat_lt}

-- the character of a digit, from '0' to '9'
unfoldable pub is_digit : ℕ → Bool
is_digit b = nat_le 48 b && nat_le b 57

-- what the digits mean behind a number that was read before them; 0 where a character is no digit, or the number grows past nine digits
unfoldable pub digits_after : ℕ → List ℕ → ℕ
unfolding is_digit
digits_after n [] = n
digits_after n (b ∷ rest) = cond (is_digit b && nat_lt n 100000000) (digits_after (n * 10 + (b - 48)) rest) 0

-- the number of at most nine digits that a text is, else 0
abbrev pub decimal : List ℕ → ℕ
decimal text = digits_after 0 text
