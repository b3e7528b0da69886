-- What a token does in an expression.
use Rattle.std.specs.Prelude.{ℕ, Bool, false, cond, List, [], ◌∷◌, pos, ◌==◌}
use Rattle.std.specs.Float.{binary32}
use Rattle.std.specs.Float.Ieee.{of_int}
use Rattle.orchestra_tokens.specs.declared.Token.{Token}
use Rattle.orchestra_tokens.specs.declared.Token.TheVariants.{Number, Symbol, Whole, Sign}
use Rattle.orchestra_signs.specs.Signs as S
use Rattle.orchestra_signs.specs.Operators as O
use Rattle.orchestra_syntax.specs.inside.Program.{zero_f, name_op, number_op, unary_op, binary_op}
use Rattle.orchestra_expressions.specs.declared.PrefixToken.{PrefixToken}
use Rattle.orchestra_expressions.specs.declared.PrefixToken.TheVariants.{Push, Unary, Open, Call, Call2, Bad}
use Rattle.orchestra_expressions.specs.declared.InfixToken.{InfixToken}
use Rattle.orchestra_expressions.specs.declared.InfixToken.TheVariants.{Binary, Question, Stop}

-- the number s is that of a sign
abbrev is : ℕ → S.Sign → Bool
is s k = s == S.number k

-- what a sign starts
abbrev pub prefix_sign : ℕ → PrefixToken
prefix_sign s =
    cond (is s S.abs) (Call (unary_op O.absolute))
    (cond (is s S.sgn) (Call (unary_op O.signum))
    (cond (is s S.int) (Call (unary_op O.whole))
    (cond (is s S.frac) (Call (unary_op O.fraction))
    (cond (is s S.min) (Call2 (binary_op O.least))
    (cond (is s S.max) (Call2 (binary_op O.greatest))
    (cond (is s S.round_open) Open
    (cond (is s S.-) (Unary (unary_op O.negative))
    (cond (is s S.!) (Unary (unary_op O.not)) Bad))))))))

abbrev pub prefix_of : Token → PrefixToken
prefix_of (Number x) = Push number_op 0 x
prefix_of (Symbol n) = Push name_op n zero_f
prefix_of (Whole w) = Push number_op 0 (of_int binary32 (pos w))
prefix_of (Sign s) = prefix_sign s

-- what a sign does after an operand: an operator and its level
abbrev pub infix_sign : ℕ → InfixToken
infix_sign s =
    cond (is s S.question) Question
    (cond (is s S.||) (Binary (binary_op O.or) 1)
    (cond (is s S.&&) (Binary (binary_op O.and) 2)
    (cond (is s S.==) (Binary (binary_op O.equal) 3)
    (cond (is s S.!=) (Binary (binary_op O.unequal) 3)
    (cond (is s S.<) (Binary (binary_op O.less) 4)
    (cond (is s S.>) (Binary (binary_op O.greater) 4)
    (cond (is s S.<=) (Binary (binary_op O.at_most) 4)
    (cond (is s S.>=) (Binary (binary_op O.at_least) 4)
    (cond (is s S.+) (Binary (binary_op O.plus) 5)
    (cond (is s S.-) (Binary (binary_op O.minus) 5)
    (cond (is s S.*) (Binary (binary_op O.times) 6)
    (cond (is s S./) (Binary (binary_op O.over) 6) Stop))))))))))))

abbrev pub infix_of : Token → InfixToken
infix_of (Number x) = Stop
infix_of (Symbol n) = Stop
infix_of (Whole w) = Stop
infix_of (Sign s) = infix_sign s

-- the token is this sign
abbrev pub is_sign : Token → ℕ → Bool
is_sign (Number x) s = false
is_sign (Symbol n) s = false
is_sign (Whole w) s = false
is_sign (Sign k) s = k == s

-- the signs that the reader looks for, by number
abbrev pub round_open : ℕ
round_open = S.number S.round_open

abbrev pub round_close : ℕ
round_close = S.number S.round_close

abbrev pub comma : ℕ
comma = S.number S.comma

abbrev pub colon : ℕ
colon = S.number S.colon

-- the same of the first of some tokens: past the end nothing starts, nothing goes on, and no sign stands
abbrev pub prefix_l : List Token → PrefixToken
prefix_l [] = Bad
prefix_l (t ∷ ts) = prefix_of t

abbrev pub infix_l : List Token → InfixToken
infix_l [] = Stop
infix_l (t ∷ ts) = infix_of t

abbrev pub sign_l : List Token → ℕ → Bool
sign_l [] s = false
sign_l (t ∷ ts) s = is_sign t s
