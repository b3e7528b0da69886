-- Names put by their places change neither the parts that wait, nor the lengths.
use Prim.Native.Nat.{ℕ, suc}
use native.Mathlib.Omega.{arith}
use mathlib.Core.Path.{◌≡◌, refl}
use mathlib.Core.List.{List, [], ◌∷◌, map}
use lib.ListN.{length, length-append}
use Rattle.orchestra_syntax.specs.Tree.{Expr, number, name, unary, binary, choose, Statements, done, assign, output, branch, Instrument}
use Rattle.orchestra_syntax.specs.inside.Program.{compile, code, instrument, program}
use Rattle.orchestra_syntax.specs.Names.{Named}
use Rattle.orchestra_syntax.specs.inside.Placed.{put_in, put, placed}
use Rattle.code_translation.specs.Statements.{depth}
use Rattle.code_bounds.specs.Sizes.{Shallow, Small}

module _ (ms : List Named) where
  pub depth-put : (e : Expr) → depth (put_in ms e) ≡ depth e
  unfolding depth put_in
  depth-put (number x) = refl
  depth-put (name c) = refl
  depth-put (unary o e) = depth-put e
  depth-put (binary o a b) = rw (depth-put a, depth-put b)
  depth-put (choose c a b) = rw (depth-put c, depth-put a, depth-put b)

  pub compile-put : (e : Expr) → length (compile (put_in ms e)) ≡ length (compile e)
  unfolding put_in compile
  compile-put (number x) = refl
  compile-put (name c) = refl
  compile-put (unary o e) = simp length-append (omega (arith, compile-put e))
  compile-put (binary o a b) = simp length-append (omega (arith, compile-put a, compile-put b))
  compile-put (choose c a b) = simp length-append (omega (arith, compile-put c, compile-put a, compile-put b))

  pub code_put : (t : Statements) → length (code (put ms t)) ≡ length (code t)
  unfolding put code
  code_put done = refl
  code_put (assign c e t) = simp length-append (omega (arith, compile-put e, code_put t))
  code_put (output e t) = simp length-append (omega (arith, compile-put e, code_put t))
  code_put (branch e a b t) = simp length-append (omega (arith, compile-put e, code_put a, code_put b, code_put t))

  pub shallow-put : (e : Expr) → Shallow e → Shallow (put_in ms e)
  shallow-put e s = record { deep = omega (arith, depth-put e) }

  pub small_put : (g : ℕ) (t : Statements) → Small g t → Small g (put ms t)
  unfolding Small put
  small_put g done s = tt
  small_put g (assign c e t) s = (shallow-put e s.0, small_put g t s.1)
  small_put g (output e t) s = (shallow-put e s.0, small_put g t s.1)
  small_put g (branch e a b t) s =
      (shallow-put e s.0, (s.1.0, (small_put (suc g) a s.1.1.0, (small_put (suc g) b s.1.1.1.0, small_put g t s.1.1.1.1))))

-- an instrument's code, and a program, are as long with names by their places
pub instrument-put : (i : Instrument) → length (instrument (placed i)) ≡ length (instrument i)
instrument-put i = simp (length-append, code_put)

pub program-put : (is : List Instrument) → length (program (map placed is)) ≡ length (program is)
unfolding program
program-put [] = refl
program-put (i ∷ is) = simp length-append (omega (arith, simp length-append at (instrument-put i), program-put is))
