-- Document 01's grammar, as derivations, its signs by name.
use Rattle.std.specs.Prelude.{ℕ, suc, ◌≤◌, List, [], ◌∷◌, ◌++◌, Float, pos}
use Rattle.std.specs.Float.{binary32}
use Rattle.std.specs.Float.Ieee.{of_int}
use Rattle.orchestra_signs.specs.Signs as S
use Rattle.orchestra_signs.specs.Operators.{Unary, Binary, unary_sign, binary_sign}
use Rattle.orchestra_tokens.specs.declared.Token.{Token}
use Rattle.orchestra_tokens.specs.declared.Token.TheVariants.{Number, Symbol, Whole, Sign}
use Rattle.orchestra_syntax.specs.Tree.{Expr, number, name, unary, binary, choose, Statements, done, assign, output, branch, Declaration, Instrument, ivar_kind, ksig_kind, asig_kind, imports_kind}

-- the token of a sign
abbrev pub sign : S.Sign → Token
sign s = Sign (S.number s)

-- "loosest first": the level of each operator with two sides, all from the left. ? : is of level 0; ! and unary - are of level 7, tighter than
-- all of these
pub data Binds : Binary → ℕ → Type 0 where
  or : Binds Binary.or 1
  and : Binds Binary.and 2
  equal : Binds Binary.equal 3
  unequal : Binds Binary.unequal 3
  less : Binds Binary.less 4
  greater : Binds Binary.greater 4
  at_most : Binds Binary.at_most 4
  at_least : Binds Binary.at_least 4
  plus : Binds Binary.plus 5
  minus : Binds Binary.minus 5
  times : Binds Binary.times 6
  over : Binds Binary.over 6

-- "min and max take two arguments, the other calls one": the calls with one
pub data Call : Unary → Type 0 where
  abs : Call Unary.absolute
  sgn : Call Unary.signum
  int : Call Unary.whole
  frac : Call Unary.fraction

-- and with two
pub data Call2 : Binary → Type 0 where
  min : Call2 Binary.least
  max : Call2 Binary.greatest

-- what stands before its operand
pub data Prefix : Unary → Type 0 where
  not : Prefix Unary.not
  negative : Prefix Unary.negative

-- an expression whose operators outside brackets are of level m or tighter
pub data Derives : ℕ → Expr → List Token → Type 0 where
  real : {m : ℕ} (x : Float) → Derives m (number x) (Number x ∷ [])
  whole : {m : ℕ} (w : ℕ) → Derives m (number (of_int binary32 (pos w))) (Whole w ∷ [])
  named : {m : ℕ} (n : ℕ) → Derives m (name n) (Symbol n ∷ [])
  -- ! or - and what it works on
  prefixed : {m : ℕ} {o : Unary} {e : Expr} {ts : List Token} → Prefix o → Derives 7 e ts → Derives m (unary o e) (sign (unary_sign o) ∷ ts)
  -- ( expression )
  bracketed : {m : ℕ} {e : Expr} {ts : List Token} → Derives 0 e ts → Derives m e (sign S.round_open ∷ (ts ++ sign S.round_close ∷ []))
  -- call ( expression )
  called : {m : ℕ} {o : Unary} {e : Expr} {ts : List Token} → Call o → Derives 0 e ts
      → Derives m (unary o e) (sign (unary_sign o) ∷ sign S.round_open ∷ (ts ++ sign S.round_close ∷ []))
  -- call ( expression , expression )
  called2 : {m : ℕ} {o : Binary} {a b : Expr} {ts us : List Token} → Call2 o → Derives 0 a ts → Derives 0 b us
      → Derives m (binary o a b) (sign (binary_sign o) ∷ sign S.round_open ∷ (ts ++ sign S.comma ∷ (us ++ sign S.round_close ∷ [])))
  -- left side, operator, right side: from the left, so that the right side is tighter
  sides : {m l : ℕ} {o : Binary} {a b : Expr} {ts us : List Token} → Binds o l → m ≤ l → Derives l a ts → Derives (suc l) b us
      → Derives m (binary o a b) (ts ++ sign (binary_sign o) ∷ us)
  -- guard ? first : second, from the right
  chosen : {c a b : Expr} {ts us vs : List Token} → Derives 1 c ts → Derives 0 a us → Derives 0 b vs
      → Derives 0 (choose c a b) (ts ++ sign S.question ∷ (us ++ sign S.colon ∷ vs))

-- an expression
abbrev pub IsExpr : Expr → List Token → Type 0
IsExpr e ts = Derives 0 e ts

-- statements, none or more
pub data Stmts : Statements → List Token → Type 0 where
  none : Stmts done []
  -- name = expression ;
  set : (n : ℕ) {e : Expr} {ts : List Token} {r : Statements} {us : List Token} → IsExpr e ts → Stmts r us
      → Stmts (assign n e r) (Symbol n ∷ sign S.becomes ∷ (ts ++ sign S.semicolon ∷ us))
  -- output ( expression ) ;
  out : {e : Expr} {ts : List Token} {r : Statements} {us : List Token} → IsExpr e ts → Stmts r us
      → Stmts (output e r) (sign S.output ∷ sign S.round_open ∷ (ts ++ sign S.round_close ∷ sign S.semicolon ∷ us))
  -- if ( expression ) { statements }
  when : {e : Expr} {ts : List Token} {a : Statements} {xs : List Token} {r : Statements} {us : List Token} → IsExpr e ts → Stmts a xs → Stmts r us
      → Stmts (branch e a done r) (sign S.if ∷ sign S.round_open ∷ (ts ++ sign S.round_close ∷ sign S.curly_open ∷ (xs ++ sign S.curly_close ∷ us)))
  -- if ( expression ) { statements } else { statements }
  either : {e : Expr} {ts : List Token} {a : Statements} {xs : List Token} {b : Statements} {ys : List Token} {r : Statements} {us : List Token}
      → IsExpr e ts → Stmts a xs → Stmts b ys → Stmts r us
      → Stmts (branch e a b r) (sign S.if ∷ sign S.round_open ∷ (ts ++ sign S.round_close ∷ sign S.curly_open ∷ (xs ++ sign S.curly_close ∷ sign S.else ∷ sign S.curly_open ∷ (ys ++ sign S.curly_close ∷ us))))

-- one or more names parted by commas
pub data Names : List ℕ → List Token → Type 0 where
  one : (n : ℕ) → Names (n ∷ []) (Symbol n ∷ [])
  more : (n : ℕ) {ns : List ℕ} {ts : List Token} → Names ns ts → Names (n ∷ ns) (Symbol n ∷ sign S.comma ∷ ts)

-- names parted by commas, or none
pub data Fields : List ℕ → List Token → Type 0 where
  none : Fields [] []
  some : {ns : List ℕ} {ts : List Token} → Names ns ts → Fields ns ts

-- ivar, ksig, asig or imports ksig
pub data Kinds : ℕ → List Token → Type 0 where
  ivar : Kinds ivar_kind (sign S.ivar ∷ [])
  ksig : Kinds ksig_kind (sign S.ksig ∷ [])
  asig : Kinds asig_kind (sign S.asig ∷ [])
  imports : Kinds imports_kind (sign S.imports ∷ sign S.ksig ∷ [])

-- declarations, none or more
pub data Decls : List Declaration → List Token → Type 0 where
  none : Decls [] []
  -- kind names ;
  some : {k : ℕ} {ks : List Token} {ns : List ℕ} {ts : List Token} {ds : List Declaration} {us : List Token} → Kinds k ks → Names ns ts → Decls ds us
      → Decls (record { kind = k; names = ns } ∷ ds) (ks ++ (ts ++ sign S.semicolon ∷ us))

-- instr name ( fields ) { declarations statements }
pub data Instr : Instrument → List Token → Type 0 where
  is : (n : ℕ) {fs : List ℕ} {ts : List Token} {ds : List Declaration} {us : List Token} {b : Statements} {vs : List Token}
      → Fields fs ts → Decls ds us → Stmts b vs
      → Instr (record { name = n; fields = fs; declarations = ds; body = b })
      (sign S.instr ∷ Symbol n ∷ sign S.round_open ∷ (ts ++ sign S.round_close ∷ sign S.curly_open ∷ (us ++ (vs ++ sign S.curly_close ∷ []))))

-- one or more instruments
pub data Orchestra : List Instrument → List Token → Type 0 where
  last : {i : Instrument} {ts : List Token} → Instr i ts → Orchestra (i ∷ []) ts
  next : {i : Instrument} {ts : List Token} {is : List Instrument} {us : List Token} → Instr i ts → Orchestra is us → Orchestra (i ∷ is) (ts ++ us)
