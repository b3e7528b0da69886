-- How operators group: the tree of some tokens, and that no other tree has them.
use Rattle.std.proofs.Common.{◌≡◌, ℕ, [], ◌∷◌, arith}
use Rattle.orchestra_tokens.specs.declared.Token.TheVariants.{Symbol}
use Rattle.orchestra_signs.specs.Signs as S
use Rattle.orchestra_signs.specs.Operators as O
use Rattle.orchestra_syntax.specs.Tree.{Expr, name, unary, binary, choose}
use Rattle.orchestra_syntax.specs.Grammar.{sign, Derives, named, prefixed, sides, chosen, plus, minus, times, negative}
use Rattle.orchestra_expressions.proofs.Unique.{unique}

module _ (a b c d e : ℕ) where
  -- a - b - c from the left
  pub minus-left : {t : Expr} → Derives 0 t (Symbol a ∷ sign S.- ∷ Symbol b ∷ sign S.- ∷ Symbol c ∷ []) → t ≡ binary O.minus (binary O.minus (name a) (name b)) (name c)
  minus-left g = unique g (sides minus (omega arith) (sides minus (omega arith) (named a) (named b)) (named c))

  -- a ? b : c ? d : e from the right
  pub choice-right : {t : Expr} → Derives 0 t (Symbol a ∷ sign S.question ∷ Symbol b ∷ sign S.colon ∷ Symbol c ∷ sign S.question ∷ Symbol d ∷ sign S.colon ∷ Symbol e ∷ [])
      → t ≡ choose (name a) (name b) (choose (name c) (name d) (name e))
  choice-right g = unique g (chosen (named a) (named b) (chosen (named c) (named d) (named e)))

  -- a + b * c, with * tighter
  pub times-tighter : {t : Expr} → Derives 0 t (Symbol a ∷ sign S.+ ∷ Symbol b ∷ sign S.* ∷ Symbol c ∷ []) → t ≡ binary O.plus (name a) (binary O.times (name b) (name c))
  times-tighter g = unique g (sides plus (omega arith) (named a) (sides times (omega arith) (named b) (named c)))

  -- a - - b: a sign may follow an operator
  pub minus_minus : {t : Expr} → Derives 0 t (Symbol a ∷ sign S.- ∷ sign S.- ∷ Symbol b ∷ []) → t ≡ binary O.minus (name a) (unary O.negative (name b))
  minus_minus g = unique g (sides minus (omega arith) (named a) (prefixed negative (named b)))
