-- What the search for a float's shortest text answers. Definitions and a statement only.
use Rattle.std.specs.Prelude.{Option, Some, None, ℕ, suc, ◌<◌, ◌≡◌, ◌⊎◌, Float}
use Rattle.text_numerals.specs.Numeral.{most_number}
use Rattle.text_numerals.specs.Shortest.{Reads, Shortest, NoText}

unfoldable pub TextIs : Float → Option (ℕ × ℕ) → Type 0
TextIs x (Some r) = Shortest x r.0 r.1
TextIs x None = NoText x

-- document 02's number of each case: 0, or 19 where no text reads as the float
abbrev pub number_of : Option (ℕ × ℕ) → ℕ
number_of (Some r) = 0
number_of None = 19

pub record Answers (x : Float) (r : Option (ℕ × ℕ)) : Type 0 where
  pub no_text : number_of r ≡ 19 → NoText x
  pub refused : NoText x → number_of r ≡ 19

abbrev pub EveryAnswer : Type 0
EveryAnswer = (x : Float) (r : Option (ℕ × ℕ)) → TextIs x r → Answers x r

-- ---- with d decimals

-- only f and the next number can read as x
unfoldable pub Around : Float → ℕ → ℕ → Type 0
Around x d f = (n : ℕ) → n < most_number → Reads x n d → (n ≡ f) ⊎ (n ≡ suc f)

pub record Least (x : Float) (d n : ℕ) : Type 0 where
  pub below : n < most_number
  pub reads : Reads x n d
  pub least : (k : ℕ) → k < n → Reads x k d → ⊥

abbrev pub NoNumber : Float → ℕ → Type 0
NoNumber x d = (n : ℕ) → n < most_number → Reads x n d → ⊥

unfoldable pub LeastIs : Float → ℕ → Option ℕ → Type 0
LeastIs x d (Some n) = Least x d n
LeastIs x d None = NoNumber x d
