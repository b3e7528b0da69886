-- What the reading of an orchestra's bytes gives: its tokens in an array, or the refusal.
use Rattle.std.specs.Prelude.{Result, Ok, Err, ℕ, cond, List, [], ◌++◌, length, drop, replicate, ltb, Float}
use Rattle.base_answer.specs.declared.Answer.{Answer}
use Rattle.base_answer.specs.declared.Answer.TheVariants.{BadToken, TooLarge}
use Rattle.orchestra_tokens.specs.inside.Token.{zero_f}
use Rattle.orchestra_tokens.specs.inside.Scanning.{Scanned, none, some, tokens_of}
use Rattle.orchestra_tokens.specs.Measures.{longest, most_tokens, measured}
use Rattle.orchestra_tokens.specs.declared.Token.{Token}
use Rattle.orchestra_tokens.specs.declared.Token.TheVariants.{Number, Symbol, Whole, Sign}
use Rattle.orchestra_tokens.specs.declared.Tokens.{Tokens}

-- a token's float
abbrev pub real_of : Token → Float
real_of (Number x) = x
real_of (Symbol s) = zero_f
real_of (Whole w) = zero_f
real_of (Sign k) = zero_f

-- an array of 2,048 that starts with some elements, and else holds d
abbrev pub padded : {A : Type 0} → A → List A → List A
padded d xs = xs ++ drop (length xs) (replicate most_tokens d)

abbrev pub stored : List Token → Tokens
stored ts = record { count = length ts; tokens = padded (Sign 0) ts }

-- 12, then the token measures (16)
abbrev pub judged : Scanned → Result Tokens Answer
judged none = Err BadToken
judged (some ts) = cond (measured ts) (Ok (stored ts)) (Err TooLarge)

-- more than 16,384 bytes are 16, before anything else
unfoldable pub read_of : List ℕ → Result Tokens Answer
read_of bs = cond (ltb longest (length bs)) (Err TooLarge) (judged (tokens_of bs))
