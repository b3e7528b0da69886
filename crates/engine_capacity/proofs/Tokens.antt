-- An output has its tokens, and of two neighbours at most one is a number.
use Prim.Native.Nat.{ℕ, suc, ◌+◌, ◌*◌, ◌≤◌}
use native.Mathlib.Omega.{arith}
use mathlib.Core.List.{List}
use lib.ListN.{length, length-append}
use Rattle.orchestra_tokens.specs.declared.Token.{Token}
use Rattle.orchestra_syntax.specs.Tree.{Expr, Statements, Instrument}
use Rattle.orchestra_syntax.specs.Grammar.{Derives, real, whole, named, prefixed, bracketed, called, called2, sides, chosen, Stmts, none, set, out, when, either, Instr, is as an·instr, last, next}
use Rattle.code_bounds.specs.Ifs.{instr_tokens}
use Rattle.code_bounds.proofs.Exprs.{depth-tokens}
use Rattle.code_translation.proofs.Exprs.{depth_pos}
use Rattle.engine_capacity.specs.Capacity.{numbers_in, numbers_of, outputs_of, all_numbers, all_outputs, output_tokens, OutputsByTokens, NumbersByTokens}

numbers-expr : {m : ℕ} {e : Expr} {ts : List Token} → Derives m e ts → 2 * numbers_in e ≤ suc (length ts)
unfolding numbers_in
numbers-expr (real x) = omega arith
numbers-expr (whole w) = omega arith
numbers-expr (named n) = omega arith
numbers-expr (prefixed p d) = omega (arith, numbers-expr d)
numbers-expr (bracketed d) = simp length-append (omega (arith, numbers-expr d))
numbers-expr (called p d) = simp length-append (omega (arith, numbers-expr d))
numbers-expr (called2 p d f) = simp length-append (omega (arith, numbers-expr d, numbers-expr f))
numbers-expr (sides p l d f) = simp length-append (omega (arith, numbers-expr d, numbers-expr f))
numbers-expr (chosen g d f) = simp length-append (omega (arith, numbers-expr g, numbers-expr d, numbers-expr f))

numbers-tokens : {t : Statements} {ts : List Token} → Stmts t ts → 2 * numbers_of t ≤ length ts
unfolding numbers_of
numbers-tokens none = omega arith
numbers-tokens (set n d s) = simp length-append (omega (arith, numbers-expr d, numbers-tokens s))
numbers-tokens (out d s) = simp length-append (omega (arith, numbers-expr d, numbers-tokens s))
numbers-tokens (when d t s) = simp length-append (omega (arith, numbers-expr d, numbers-tokens t, numbers-tokens s))
numbers-tokens (either d t u s) = simp length-append (omega (arith, numbers-expr d, numbers-tokens t, numbers-tokens u, numbers-tokens s))

outputs-tokens : {t : Statements} {ts : List Token} → Stmts t ts → output_tokens * outputs_of t ≤ length ts
unfolding outputs_of
outputs-tokens none = omega arith
outputs-tokens (set n d s) = simp length-append (omega (arith, outputs-tokens s))
outputs-tokens (out {e = e} d s) = simp length-append (omega (arith, depth_pos e, depth-tokens d, outputs-tokens s))
outputs-tokens (when d t s) = simp length-append (omega (arith, outputs-tokens t, outputs-tokens s))
outputs-tokens (either d t u s) = simp length-append (omega (arith, outputs-tokens t, outputs-tokens u, outputs-tokens s))

numbers-instr : {i : Instrument} {ts : List Token} → Instr i ts → 2 * numbers_of i.body ≤ length ts
numbers-instr (an·instr n f d s) = simp length-append (omega (arith, numbers-tokens s))

outputs-instr : {i : Instrument} {ts : List Token} → Instr i ts → instr_tokens + output_tokens * outputs_of i.body ≤ length ts
outputs-instr (an·instr n f d s) = simp length-append (omega (arith, outputs-tokens s))

pub numbers-by-tokens : NumbersByTokens
unfolding all_numbers
numbers-by-tokens is ts (last d) = omega (arith, numbers-instr d)
numbers-by-tokens is ts (next {ts = us} {is = js} {us = vs} d o) = omega (arith, length-append us vs, numbers-instr d, numbers-by-tokens js vs o)

pub outputs-by-tokens : OutputsByTokens
unfolding all_outputs
outputs-by-tokens is ts (last d) = omega (arith, outputs-instr d)
outputs-by-tokens is ts (next {ts = us} {is = js} {us = vs} d o) = omega (arith, length-append us vs, outputs-instr d, outputs-by-tokens js vs o)
