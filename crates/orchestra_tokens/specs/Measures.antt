-- Document 01's token measures.
use Rattle.std.specs.Prelude.{ℕ, suc, ◌-◌, Bool, true, ◌&&◌, ◌||◌, cond, List, [], ◌∷◌, length, eqb, leb}
use Rattle.orchestra_signs.specs.Signs as S
use Rattle.orchestra_tokens.specs.declared.Token.{Token}
use Rattle.orchestra_tokens.specs.declared.Token.TheVariants.{Number, Symbol, Whole, Sign}

-- the limits; the first is that on bytes, which comes before all else
abbrev pub longest : ℕ
longest = 16384

abbrev pub most_tokens : ℕ
most_tokens = 2048

abbrev pub most_brackets : ℕ
most_brackets = 24

abbrev pub longest_stretch : ℕ
longest_stretch = 128

-- the kind k is that of a sign
abbrev is : ℕ → S.Sign → Bool
is k s = eqb k (S.number s)

-- the first byte of a token
abbrev pub kind_of : Token → ℕ
kind_of (Number x) = 0xf1
kind_of (Symbol s) = 0xf0
kind_of (Whole w) = 0xf2
kind_of (Sign k) = k

-- the brackets open after a token of the kind k, of those open before it: each ( or { adds one, each ) or } takes one off, never below 0
unfoldable pub opened : ℕ → ℕ → ℕ
opened n k = cond (is k S.round_open || is k S.curly_open) (suc n) (cond (is k S.round_close || is k S.curly_close) (n - 1) n)

-- never more than 24 brackets open, where n are open before
unfoldable pub brackets_within : ℕ → List Token → Bool
brackets_within n [] = true
brackets_within n (t ∷ ts) = leb (opened n (kind_of t)) most_brackets && brackets_within (opened n (kind_of t)) ts

-- the tokens since the last of ; { } or the start, after a token of the kind k
unfoldable pub since : ℕ → ℕ → ℕ
since n k = cond (is k S.semicolon || (is k S.curly_open || is k S.curly_close)) 0 (suc n)

-- at most 128 tokens between two neighbours among ; { } and the ends, where n came since the last of them
unfoldable pub stretches_within : ℕ → List Token → Bool
stretches_within n [] = true
stretches_within n (t ∷ ts) = leb (since n (kind_of t)) longest_stretch && stretches_within (since n (kind_of t)) ts

-- within the token measures
abbrev pub measured : List Token → Bool
measured ts = leb (length ts) most_tokens && (brackets_within 0 ts && stretches_within 0 ts)
