-- The tables of heads and tails are the grammar's lists of operators and calls.
use Rattle.std.proofs.Common.{◌≡◌, ℕ, ◌<◌, ◌≤◌, Bool, true, cond, eqb, [], ◌∷◌, refl, ap, arith, eqb-true}
use lib.Ieee.{Float}
use Rattle.orchestra_tokens.specs.declared.Token.{Token}
use Rattle.orchestra_tokens.specs.declared.Token.TheVariants.{Number, Symbol, Whole, Sign}
use Rattle.orchestra_signs.specs.Signs as S
use Rattle.orchestra_signs.specs.Operators as O
use Rattle.orchestra_signs.specs.Operators.{unary_sign, binary_sign}
use Rattle.orchestra_syntax.specs.Tree.{Expr, number, name}
use Rattle.orchestra_syntax.specs.inside.Program.{Ins, compile, unary_op, binary_op}
use Rattle.orchestra_expressions.specs.declared.PrefixToken.{PrefixToken}
use Rattle.orchestra_expressions.specs.declared.PrefixToken.TheVariants.{Push, Unary, Open, Call, Call2, Bad}
use Rattle.orchestra_expressions.specs.declared.InfixToken.{InfixToken}
use Rattle.orchestra_expressions.specs.declared.InfixToken.TheVariants.{Binary, Question, Stop}
use Rattle.orchestra_expressions.specs.Roles.{prefix_sign, prefix_of, infix_sign, infix_of}
use Rattle.orchestra_syntax.specs.Grammar as G
use Rattle.orchestra_syntax.specs.Grammar.{sign, Derives, real, whole, named, Binds, Prefix, or, and, equal, unequal, less, greater, at_most, at_least, plus, minus, times, over, negative, not, abs, sgn, int, frac, min, max}
use Rattle.orchestra_expressions.proofs.Results.{by_arm}

split : {A : Type 0} (P : A → Type 0) (b : Bool) (x y : A) → (b ≡ true → P x) → P y → P (cond b x y)
split P b x y f g = by_arm P b x y f (λ e. g)

-- a token that is pushed is a number or a name
pub record Atom (t : Token) (i : Ins) : Type 0 where
  pub tree : Expr
  pub code : i ∷ [] ≡ compile tree
  pub derives : (m : ℕ) → Derives m tree (t ∷ [])

pub data Heads (t : Token) : PrefixToken → Type 0 where
  push : {o a : ℕ} {x : Float} → Atom t (record { op = o; arg = a; val = x }) → Heads t (Push o a x)
  unary : {o : O.Unary} → t ≡ sign (unary_sign o) → Prefix o → Heads t (Unary (unary_op o))
  opens : t ≡ sign S.round_open → Heads t Open
  call : {o : O.Unary} → t ≡ sign (unary_sign o) → G.Call o → Heads t (Call (unary_op o))
  call2 : {o : O.Binary} → t ≡ sign (binary_sign o) → G.Call2 o → Heads t (Call2 (binary_op o))
  bad : Heads t Bad

pub heads : (t : Token) → Heads t (prefix_of t)
unfolding compile
heads (Number x) = push (record { tree = number x; code = refl; derives = λ m. real x })
heads (Symbol n) = push (record { tree = name n; code = refl; derives = λ m. named n })
heads (Whole w) = push (record { tree = _; code = refl; derives = λ m. whole w })
heads (Sign s) =
    let P = Heads (Sign s) in
    split P (eqb s 9) (Call 9) _ (λ e. call (ap Sign (eqb-true s 9 e)) abs)
    (split P (eqb s 10) (Call 10) _ (λ e. call (ap Sign (eqb-true s 10 e)) sgn)
    (split P (eqb s 11) (Call 11) _ (λ e. call (ap Sign (eqb-true s 11 e)) int)
    (split P (eqb s 12) (Call 12) _ (λ e. call (ap Sign (eqb-true s 12 e)) frac)
    (split P (eqb s 13) (Call2 13) _ (λ e. call2 (ap Sign (eqb-true s 13 e)) min)
    (split P (eqb s 14) (Call2 14) _ (λ e. call2 (ap Sign (eqb-true s 14 e)) max)
    (split P (eqb s 15) Open _ (λ e. opens (ap Sign (eqb-true s 15 e)))
    (split P (eqb s 33) (Unary 37) _ (λ e. unary (ap Sign (eqb-true s 33 e)) negative)
    (split P (eqb s 36) (Unary 36) Bad (λ e. unary (ap Sign (eqb-true s 36 e)) not) bad))))))))

pub data Tails (t : Token) : InfixToken → Type 0 where
  binary : {o : O.Binary} {l : ℕ} → t ≡ sign (binary_sign o) → Binds o l → Tails t (Binary (binary_op o) l)
  question : t ≡ sign S.question → Tails t Question
  stop : Tails t Stop

pub tails : (t : Token) → Tails t (infix_of t)
tails (Number x) = stop
tails (Symbol n) = stop
tails (Whole w) = stop
tails (Sign s) =
    let P = Tails (Sign s) in
    split P (eqb s 22) Question _ (λ e. question (ap Sign (eqb-true s 22 e)))
    (split P (eqb s 24) (Binary 24 1) _ (λ e. binary (ap Sign (eqb-true s 24 e)) or)
    (split P (eqb s 25) (Binary 25 2) _ (λ e. binary (ap Sign (eqb-true s 25 e)) and)
    (split P (eqb s 26) (Binary 26 3) _ (λ e. binary (ap Sign (eqb-true s 26 e)) equal)
    (split P (eqb s 27) (Binary 27 3) _ (λ e. binary (ap Sign (eqb-true s 27 e)) unequal)
    (split P (eqb s 28) (Binary 28 4) _ (λ e. binary (ap Sign (eqb-true s 28 e)) less)
    (split P (eqb s 29) (Binary 29 4) _ (λ e. binary (ap Sign (eqb-true s 29 e)) greater)
    (split P (eqb s 30) (Binary 30 4) _ (λ e. binary (ap Sign (eqb-true s 30 e)) at_most)
    (split P (eqb s 31) (Binary 31 4) _ (λ e. binary (ap Sign (eqb-true s 31 e)) at_least)
    (split P (eqb s 32) (Binary 32 5) _ (λ e. binary (ap Sign (eqb-true s 32 e)) plus)
    (split P (eqb s 33) (Binary 33 5) _ (λ e. binary (ap Sign (eqb-true s 33 e)) minus)
    (split P (eqb s 34) (Binary 34 6) _ (λ e. binary (ap Sign (eqb-true s 34 e)) times)
    (split P (eqb s 35) (Binary 35 6) Stop (λ e. binary (ap Sign (eqb-true s 35 e)) over) stop))))))))))))

-- an operator's sign is its own, and its level is from 1 to 6
operator : {o : O.Binary} {l : ℕ} → Binds o l → (infix_sign (binary_op o) ≡ Binary (binary_op o) l) × ((1 ≤ l) × (l < 7))
operator or = (refl, (omega arith, omega arith))
operator and = (refl, (omega arith, omega arith))
operator equal = (refl, (omega arith, omega arith))
operator unequal = (refl, (omega arith, omega arith))
operator less = (refl, (omega arith, omega arith))
operator greater = (refl, (omega arith, omega arith))
operator at_most = (refl, (omega arith, omega arith))
operator at_least = (refl, (omega arith, omega arith))
operator plus = (refl, (omega arith, omega arith))
operator minus = (refl, (omega arith, omega arith))
operator times = (refl, (omega arith, omega arith))
operator over = (refl, (omega arith, omega arith))

pub tail-operator : {o : O.Binary} {l : ℕ} → Binds o l → infix_sign (binary_op o) ≡ Binary (binary_op o) l
tail-operator b = (operator b).0

pub levels : {o : O.Binary} {l : ℕ} → Binds o l → (1 ≤ l) × (l < 7)
levels b = (operator b).1

pub head-prefix : {o : O.Unary} → Prefix o → prefix_sign (S.number (unary_sign o)) ≡ Unary (unary_op o)
head-prefix negative = refl
head-prefix not = refl

pub head-call : {o : O.Unary} → G.Call o → prefix_sign (S.number (unary_sign o)) ≡ Call (unary_op o)
head-call abs = refl
head-call sgn = refl
head-call int = refl
head-call frac = refl

pub head-call2 : {o : O.Binary} → G.Call2 o → prefix_sign (binary_op o) ≡ Call2 (binary_op o)
head-call2 min = refl
head-call2 max = refl

-- a token that does not go on with an expression of level m
abbrev pub Ends : ℕ → InfixToken → Type 0
Ends m (Binary o l) = l < m
Ends m Question = 0 < m
Ends m Stop = Unit {0}

-- ---- a sign by its number

pub sign-starts : (k : ℕ) {t : Token} {s : ℕ} {h : PrefixToken} → h ≡ prefix_sign k → t ≡ Sign s → s ≡ k → h ≡ prefix_of t
sign-starts k e f g = rw (f, g) e

pub sign-goes-on : (k : ℕ) {t : Token} {s : ℕ} {h : InfixToken} → h ≡ infix_sign k → t ≡ Sign s → s ≡ k → h ≡ infix_of t
sign-goes-on k e f g = rw (f, g) e
