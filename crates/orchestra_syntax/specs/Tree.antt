-- An orchestra as a tree. Names are their 16-bit symbols.
use Rattle.std.specs.Prelude.{ℕ, List, Float}
use Rattle.orchestra_signs.specs.Signs as S
use Rattle.orchestra_signs.specs.Operators.{Unary, Binary}

pub data Expr : Type 0 where
  number : Float → Expr
  name : ℕ → Expr
  -- ! - and the calls with one argument: abs sgn int frac
  unary : Unary → Expr → Expr
  -- the operators with two sides, and the calls min and max
  binary : Binary → Expr → Expr → Expr
  -- guard ? first : second
  choose : Expr → Expr → Expr → Expr

-- statements, none or more, in written order; each constructor's last argument is what follows
pub data Statements : Type 0 where
  done : Statements
  assign : ℕ → Expr → Statements → Statements
  output : Expr → Statements → Statements
  -- the guard, the block, and the block of else (without else: done)
  branch : Expr → Statements → Statements → Statements → Statements

-- a declaration's kind is the number of its first sign; a field has no sign
abbrev pub field_kind : ℕ
field_kind = 0

abbrev pub ivar_kind : ℕ
ivar_kind = S.number S.ivar

abbrev pub ksig_kind : ℕ
ksig_kind = S.number S.ksig

abbrev pub asig_kind : ℕ
asig_kind = S.number S.asig

abbrev pub imports_kind : ℕ
imports_kind = S.number S.imports

pub record Declaration : Type 0 where
  pub kind : ℕ
  pub names : List ℕ

pub record Instrument : Type 0 where
  pub name : ℕ
  pub fields : List ℕ
  pub declarations : List Declaration
  pub body : Statements
