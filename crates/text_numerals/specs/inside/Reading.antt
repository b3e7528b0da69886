-- Numbers and names read at the start of bytes. Definitions only.
use Rattle.std.specs.Prelude.{ℕ, suc, ◌+◌, ◌-◌, ◌*◌, Bool, true, false, cond, ◌&&◌, List, [], ◌∷◌, ltb, leb, eqb, Float}
use Rattle.text_numerals.specs.Numeral.{minus_sign, point, zero_digit, name_letter, most_number, most_decimals, most_symbol, float_of}

-- what was read at the start of bytes, and the bytes behind it
pub data Read (A : Type 0) : Type 0 where
  got : A → List ℕ → Read A
  refused : Read A

-- and then: what follows, where nothing was refused
abbrev pub and_then : {A B : Type 0} → Read A → (A → List ℕ → Read B) → Read B
and_then (got a rest) k = k a rest
and_then refused k = refused

-- whether the first byte is this one
unfoldable pub starts_with : ℕ → List ℕ → Bool
starts_with b [] = false
starts_with b (c ∷ cs) = eqb c b

unfoldable pub rest : List ℕ → List ℕ
rest [] = []
rest (b ∷ bs) = bs

unfoldable pub is_digit : ℕ → Bool
is_digit b = leb zero_digit b && leb b 57

unfoldable pub starts_digit : List ℕ → Bool
unfolding is_digit
starts_digit [] = false
starts_digit (b ∷ bs) = is_digit b

-- ---- digits

-- a number, and how many digits it was made of
pub record Run : Type 0 where
  pub number : ℕ
  pub count : ℕ

-- every digit at the start, behind k digits that make n; the number stays below `most`
unfoldable pub digits_from : ℕ → ℕ → ℕ → List ℕ → Read Run
unfolding is_digit
digits_from most n k [] = got (record { number = n; count = k }) []
digits_from most n k (b ∷ bs) =
    let m = n * 10 + (b - zero_digit) in
    cond (is_digit b) (cond (ltb m most) (digits_from most m (suc k) bs) refused) (got (record { number = n; count = k }) (b ∷ bs))

-- ---- a number

-- without a point
unfoldable pub without_point : Bool → Run → List ℕ → Read Float
unfolding float_of
without_point minus whole bs = got (float_of minus whole.number 0) bs

-- behind the point: one to three decimals
unfoldable pub decimals_from : Bool → ℕ → List ℕ → Read Float
unfolding digits_from float_of
decimals_from minus n bs =
    and_then (digits_from most_number n 0 bs) (λ r after.
    cond (leb 1 r.count && leb r.count most_decimals) (got (float_of minus r.number r.count) after) refused)

-- behind the sign: one digit or more, and then a point or none
unfoldable pub unsigned_from : Bool → List ℕ → Read Float
unfolding digits_from without_point decimals_from starts_with rest
unsigned_from minus bs =
    and_then (digits_from most_number 0 0 bs) (λ r after.
    cond (leb 1 r.count) (cond (starts_with point after) (decimals_from minus r.number (rest after)) (without_point minus r after)) refused)

unfoldable pub number_from : List ℕ → Read Float
unfolding unsigned_from starts_with rest
number_from bs = cond (starts_with minus_sign bs) (unsigned_from true (rest bs)) (unsigned_from false bs)

-- ---- a name

-- behind the s: a lone 0, or digits of which the first is none
unfoldable pub symbol_from : List ℕ → Read ℕ
unfolding digits_from starts_with rest
symbol_from bs =
    cond (starts_with zero_digit bs) (got 0 (rest bs))
    (and_then (digits_from (suc most_symbol) 0 0 bs) (λ r after. cond (leb 1 r.count) (got r.number after) refused))

unfoldable pub name_from : List ℕ → Read ℕ
unfolding symbol_from starts_with rest
name_from bs = cond (starts_with name_letter bs) (symbol_from (rest bs)) refused
