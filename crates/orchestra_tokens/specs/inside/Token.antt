-- A token by its kind, which is its first byte, a word and a float.
use Rattle.std.specs.Prelude.{ℕ, ◌%◌, cond, eqb, Float}
use Rattle.base_float32.specs.Builtins.{zero_f as plus_zero}
use Rattle.orchestra_tokens.specs.declared.Token.{Token}
use Rattle.orchestra_tokens.specs.declared.Token.TheVariants.{Number, Symbol, Whole, Sign}

-- what a token without a float has
abbrev pub zero_f : Float
zero_f = plus_zero

-- 0xF0 a symbol, 0xF1 a float, 0xF2 a whole number; any other kind is a sign, by its number
abbrev pub token_of : ℕ → ℕ → Float → Token
token_of k w x =
    cond (eqb k 0xf0) (Symbol (w % 65536))
    (cond (eqb k 0xf1) (Number x)
    (cond (eqb k 0xf2) (Whole w) (Sign k)))
