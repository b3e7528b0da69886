-- Document 01's token bytes, and which tokens bytes encode.
use Rattle.std.specs.Prelude.{ℕ, ◌/◌, ◌%◌, ◌<◌, ◌≡◌, Bool, true, ◌&&◌, List, [], ◌∷◌, ◌++◌, length, leb, ltb}
use Rattle.std.specs.Float.{binary32}
use Rattle.std.specs.Float.Ieee.{to_bits, fits}
use Rattle.std.specs.Float.Ieee.Scale.{finite}
use Rattle.orchestra_signs.specs.Signs.{signs}
use Rattle.orchestra_tokens.specs.declared.Token.{Token}
use Rattle.orchestra_tokens.specs.declared.Token.TheVariants.{Number, Symbol, Whole, Sign}

-- a token that is listed: a float is a finite 32-bit float, a whole number is below 16,777,217, a sign is one of document 01's list
abbrev pub valid : Token → Bool
valid (Number x) = finite x && fits binary32 x
valid (Symbol s) = ltb s 65536
valid (Whole w) = ltb w 16777217
valid (Sign k) = ltb 0 k && leb k (length signs)

unfoldable pub all_valid : List Token → Bool
all_valid [] = true
all_valid (t ∷ ts) = valid t && all_valid ts

-- 16 and 32 bits as bytes, the highest first
abbrev pub two : ℕ → List ℕ
two w = w / 256 ∷ w % 256 ∷ []

abbrev pub four : ℕ → List ℕ
four w = w / 16777216 ∷ w / 65536 % 256 ∷ w / 256 % 256 ∷ w % 256 ∷ []

-- 0xF0 and a 16-bit symbol; 0xF1 and a 32-bit float; 0xF2 and a 32-bit whole number; any other token is its number
unfoldable pub encoded : Token → List ℕ
encoded (Number x) = 0xf1 ∷ four (to_bits binary32 x)
encoded (Symbol s) = 0xf0 ∷ two s
encoded (Whole w) = 0xf2 ∷ four w
encoded (Sign k) = k ∷ []

-- the bytes of tokens; 0xFF ends
unfoldable pub bytes_of : List Token → List ℕ
bytes_of [] = 0xff ∷ []
bytes_of (t ∷ ts) = encoded t ++ bytes_of ts

-- each is a byte
unfoldable pub Bytes : List ℕ → Type 0
Bytes [] = Unit {0}
Bytes (b ∷ bs) = (b < 256) × Bytes bs

-- the bytes are these tokens, each a token listed in document 01
pub record Encodes (bs : List ℕ) (ts : List Token) : Type 0 where
  pub listed : all_valid ts ≡ true
  pub encoded : bytes_of ts ≡ bs

-- At most one list of tokens encodes given bytes.
abbrev pub OneDecoding : Type 0
OneDecoding = (bs : List ℕ) (ts us : List Token) → Encodes bs ts → Encodes bs us → ts ≡ us
