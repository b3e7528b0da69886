-- The expression reader on lists of tokens: postfix code, and the tokens that are left.
use Rattle.std.specs.Prelude.{ℕ, zero, suc, cond, List, [], ◌∷◌, ◌++◌, length, drop, nat_le}
use Rattle.orchestra_tokens.specs.declared.Token.{Token}
use Rattle.orchestra_syntax.specs.inside.Program.{Ins, ins, choose_op}
use Rattle.orchestra_expressions.specs.declared.PrefixToken.{PrefixToken}
use Rattle.orchestra_expressions.specs.declared.PrefixToken.TheVariants.{Push, Unary, Open, Call, Call2, Bad}
use Rattle.orchestra_expressions.specs.declared.InfixToken.{InfixToken}
use Rattle.orchestra_expressions.specs.declared.InfixToken.TheVariants.{Binary, Question, Stop}
use Rattle.orchestra_expressions.specs.Roles.{prefix_l, infix_l, sign_l, round_open, round_close, comma, colon}

pub data Res : Type 0 where
  no : Res
  ok : List Ins → List Token → Res

-- code in front of what is read next
abbrev pub prepend : List Ins → Res → Res
prepend c no = no
prepend c (ok d r) = ok (c ++ d) r

-- a reading, and another of what it left
abbrev pub seq : Res → (List Token → Res) → Res
seq no k = no
seq (ok c r) k = prepend c (k r)

-- a sign that must be there
abbrev pub sign : ℕ → List Token → Res
sign s ts = cond (sign_l ts s) (ok [] (drop 1 ts)) no

abbrev pub emit : Ins → List Token → Res
emit i ts = ok (i ∷ []) ts

-- an expression of level m or tighter; and what goes on after an operand with operators of level m or tighter
pub record Sys : Type 0 where
  pub expr : ℕ → List Token → Res
  pub more : ℕ → List Token → Res

module _ (S : Sys) where
  -- the sign before the last argument of a call, that argument, its bracket, and the call's operation
  abbrev pub lastly : ℕ → ℕ → List Token → Res
  lastly s o ts = seq (sign s ts) (λ p. seq (S.expr 0 p) (λ q. seq (sign round_close q) (emit (ins o))))

  -- an operand, after its first token
  abbrev pub by_prefix : PrefixToken → List Token → Res
  by_prefix (Push o a x) ts = emit (record { op = o; arg = a; val = x }) ts
  by_prefix (Unary o) ts = seq (S.expr 7 ts) (emit (ins o))
  by_prefix Open ts = seq (S.expr 0 ts) (sign round_close)
  by_prefix (Call o) ts = lastly round_open o ts
  by_prefix (Call2 o) ts = seq (sign round_open ts) (λ p. seq (S.expr 0 p) (lastly comma o))
  by_prefix Bad ts = no

  -- an operator with its right side, after the operator's token
  abbrev pub right : ℕ → ℕ → List Token → Res
  right o k ts = seq (S.expr k ts) (emit (ins o))

  -- the two last parts of a ? : after the ?
  abbrev pub parts : List Token → Res
  parts ts = seq (S.expr 0 ts) (λ p. seq (sign colon p) (λ q. seq (S.expr 0 q) (emit (ins choose_op))))

  abbrev pub by_infix : InfixToken → ℕ → List Token → Res
  by_infix (Binary o l) m ts = cond (nat_le m l) (seq (right o (suc l) (drop 1 ts)) (S.more m)) (ok [] ts)
  by_infix Question m ts = cond (nat_le m 0) (seq (parts (drop 1 ts)) (S.more m)) (ok [] ts)
  by_infix Stop m ts = ok [] ts

  abbrev pub step : Sys
  step = record {
    expr = λ m ts. seq (by_prefix (prefix_l ts) (drop 1 ts)) (S.more m);
    more = λ m ts. by_infix (infix_l ts) m ts;
  }

-- n calls deep
unfoldable pub deep : ℕ → Sys
deep zero = record { expr = λ m ts. no; more = λ m ts. no }
deep (suc n) = step (deep n)

-- as deep as the tokens can lead
unfoldable pub reader : Sys
reader = record { expr = λ m ts. (deep (suc (length ts))).expr m ts; more = λ m ts. (deep (suc (length ts))).more m ts }
