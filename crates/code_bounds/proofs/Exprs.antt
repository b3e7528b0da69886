-- What the grammar leaves of an expression and its code: operands, parts that wait, and lengths.
use Prim.Native.Nat.{ℕ, suc, ◌+◌, ◌≤◌}
use native.Mathlib.Omega.{arith}
use mathlib.Core.Path.{◌≡◌}
use mathlib.Core.List.{List}
use lib.ListN.{length, length-append}
use Rattle.orchestra_tokens.specs.declared.Token.{Token}
use Rattle.orchestra_syntax.specs.Tree.{Expr, number, name, unary, binary, choose, Statements, done, assign, output, branch}
use Rattle.orchestra_syntax.specs.inside.Program.{compile, code}
use Rattle.orchestra_syntax.specs.Grammar.{Derives, real, whole, named, prefixed, bracketed, called, called2, sides, chosen}
use Rattle.code_translation.specs.Translation.{after, past}
use Rattle.code_translation.specs.Statements.{depth}
use Rattle.code_translation.proofs.Exprs.{depth_pos}

-- ---- lengths

-- where a program goes on, by the length of the code
pub after-length : (n : ℕ) (e : Expr) → after n e ≡ n + length (compile e)
unfolding after compile
after-length n (number x) = omega arith
after-length n (name c) = omega arith
after-length n (unary o e) = simp length-append (omega (arith, after-length n e))
after-length n (binary o a b) = simp length-append (omega (arith, after-length n a, after-length (after n a) b))
after-length n (choose c a b) =
    simp length-append (omega (arith, after-length n c, after-length (after n c) a, after-length (after (after n c) a) b))

-- ---- statements

module _ (n : ℕ) (e : Expr) (t : Statements) where
  pub length-assign : length (code (assign n e t)) ≡ suc (length (compile e) + length (code t))
  unfolding code
  length-assign = simp length-append (omega arith)

  pub length-output : length (code (output e t)) ≡ suc (length (compile e) + length (code t))
  unfolding code
  length-output = simp length-append (omega arith)

pub length-branch : (e : Expr) (a b t : Statements)
    → length (code (branch e a b t)) ≡ 3 + (length (compile e) + length (code a) + length (code b) + length (code t))
unfolding code
length-branch e a b t = simp length-append (omega arith)

pub past-length : (n : ℕ) (t : Statements) → past n t ≡ n + length (code t)
unfolding past code
past-length n done = omega arith
past-length n (assign c e t) = omega (arith, after-length n e, past-length (suc (after n e)) t, length-assign c e t)
past-length n (output e t) = omega (arith, after-length n e, past-length (suc (after n e)) t, length-output 0 e t)
past-length n (branch e a b t) =
    let m = suc (after n e) in
    let k = suc (past m a) in
    let l = suc (past k b) in
    omega (arith, after-length n e, past-length m a, past-length k b, past-length l t, length-branch e a b t)

-- ---- what the tokens of an expression leave

-- each waiting part has two tokens before what comes behind it: an operand and an operator
pub depth-tokens : {m : ℕ} {e : Expr} {ts : List Token} → Derives m e ts → depth e + depth e ≤ suc (length ts)
unfolding depth
depth-tokens (real x) = omega arith
depth-tokens (whole w) = omega arith
depth-tokens (named n) = omega arith
depth-tokens (prefixed p d) = omega (arith, depth-tokens d)
depth-tokens (bracketed {ts = ts} d) = simp length-append (omega (arith, depth-tokens d))
depth-tokens (called p d) = simp length-append (omega (arith, depth-tokens d))
depth-tokens (called2 {a = a} p d f) = simp length-append (omega (arith, depth_pos a, depth-tokens d, depth-tokens f))
depth-tokens (sides {a = a} p l d f) = simp length-append (omega (arith, depth_pos a, depth-tokens d, depth-tokens f))
depth-tokens (chosen {c = c} {a = a} g d f) =
    simp length-append (omega (arith, depth_pos c, depth_pos a, depth-tokens g, depth-tokens d, depth-tokens f))

-- nor has its code more instructions
pub compile-tokens : {m : ℕ} {e : Expr} {ts : List Token} → Derives m e ts → length (compile e) ≤ length ts
unfolding compile
compile-tokens (real x) = omega arith
compile-tokens (whole w) = omega arith
compile-tokens (named n) = omega arith
compile-tokens (prefixed p d) = simp length-append (omega (arith, compile-tokens d))
compile-tokens (bracketed d) = simp length-append (omega (arith, compile-tokens d))
compile-tokens (called p d) = simp length-append (omega (arith, compile-tokens d))
compile-tokens (called2 p d f) = simp length-append (omega (arith, compile-tokens d, compile-tokens f))
compile-tokens (sides p l d f) = simp length-append (omega (arith, compile-tokens d, compile-tokens f))
compile-tokens (chosen g d f) = simp length-append (omega (arith, compile-tokens g, compile-tokens d, compile-tokens f))
