-- The tokens of bytes as the reader finds them, byte by byte; `ScansEncoding` says that they are the tokens that the bytes encode.
use Rattle.std.specs.Prelude.{ℕ, zero, suc, ◌+◌, ◌*◌, ◌≡◌, cond, List, [], ◌∷◌, get_or, eqb}
use Rattle.std.specs.Float.{binary32}
use Rattle.std.specs.Float.Ieee.{of_bits}
use Rattle.orchestra_tokens.specs.inside.Token.{token_of}
use Rattle.orchestra_tokens.specs.Encoding.{valid, Bytes, Encodes}
use Rattle.orchestra_tokens.specs.declared.Token.{Token}

abbrev pub two_of : List ℕ → ℕ
two_of bs = 256 * get_or bs 0 0 + get_or bs 1 0

abbrev pub four_of : List ℕ → ℕ
four_of bs = 16777216 * get_or bs 0 0 + (65536 * get_or bs 1 0 + (256 * get_or bs 2 0 + get_or bs 3 0))

-- how many more bytes a token has, by its first
abbrev pub more : ℕ → ℕ
more k = cond (eqb k 0xf0) 2 (cond (eqb k 0xf1) 4 (cond (eqb k 0xf2) 4 0))

-- the token that the byte k starts and the bytes bs go on with
unfoldable pub token_from : ℕ → List ℕ → Token
token_from k bs = token_of k (cond (eqb k 0xf0) (two_of bs) (four_of bs)) (of_bits binary32 (four_of bs))

-- the tokens, or none where the bytes are not those of tokens
pub data Scanned : Type 0 where
  none : Scanned
  some : List Token → Scanned

abbrev pub with : Token → Scanned → Scanned
with t none = none
with t (some ts) = some (t ∷ ts)

-- 0xFF is the last byte
abbrev pub ended : List ℕ → Scanned
ended [] = some []
ended (b ∷ bs) = none

-- the tokens of the bytes that are left when n of them belong to the token before
unfoldable pub tokens_after : ℕ → List ℕ → Scanned
tokens_after n [] = none
tokens_after (suc n) (b ∷ bs) = tokens_after n bs
tokens_after zero (b ∷ bs) =
    cond (eqb b 0xff) (ended bs)
    (cond (valid (token_from b bs)) (with (token_from b bs) (tokens_after (more b) bs)) none)

abbrev pub tokens_of : List ℕ → Scanned
tokens_of bs = tokens_after 0 bs

-- the tokens got; no tokens where there are none
abbrev pub tokens_in : Scanned → List Token
tokens_in none = []
tokens_in (some ts) = ts

-- What is found is what the bytes encode, and nothing is found exactly where they encode no tokens.
pub record ScansEncoding (bs : List ℕ) : Type 0 where
  pub found : (ts : List Token) → tokens_of bs ≡ some ts → Encodes bs ts
  pub finds : (ts : List Token) → Encodes bs ts → tokens_of bs ≡ some ts
  pub unspelt : tokens_of bs ≡ none → (ts : List Token) → Encodes bs ts → ⊥
  pub nothing : ((ts : List Token) → Encodes bs ts → ⊥) → tokens_of bs ≡ none

abbrev pub EveryScan : Type 0
EveryScan = (bs : List ℕ) → Bytes bs → ScansEncoding bs
