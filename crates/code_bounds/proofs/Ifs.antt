-- An if, an else and an instrument have their tokens.
use Prim.Native.Nat.{◌+◌, ◌*◌, ◌≤◌}
use native.Mathlib.Omega.{arith}
use mathlib.Core.List.{List, [], ◌∷◌}
use lib.ListN.{length, length-append}
use lib.Dec.{leb}
use borrow.Author.Tests.{leb-true}
use Rattle.base_laws.proofs.Choice.{both_true}
use Rattle.orchestra_tokens.specs.declared.Token.{Token}
use Rattle.orchestra_tokens.specs.Measures.{most_tokens}
use Rattle.orchestra_syntax.specs.Tree.{Statements, done, assign, output, branch, Instrument}
use Rattle.orchestra_syntax.specs.Grammar.{Stmts, none, set, out, when, either, Instr, is as an·instr, Orchestra, last, next}
use Rattle.code_bounds.specs.Ifs.{ifs, another, elses, all_ifs, all_elses, if_tokens, else_tokens, instr_tokens, IfsByTokens, IfsFit}
use Rattle.code_bounds.proofs.Exprs.{depth-tokens}
use Rattle.code_translation.proofs.Exprs.{depth_pos}

another-one : (t : Statements) → another t ≤ 1
another-one done = omega arith
another-one (assign n e t) = omega arith
another-one (output e t) = omega arith
another-one (branch e a b t) = omega arith

elses-ifs : (t : Statements) → elses t ≤ ifs t
unfolding ifs elses
elses-ifs done = omega arith
elses-ifs (assign n e t) = elses-ifs t
elses-ifs (output e t) = elses-ifs t
elses-ifs (branch e a b t) = omega (arith, another-one b, elses-ifs a, elses-ifs b, elses-ifs t)

ifs-tokens : {t : Statements} {ts : List Token} → Stmts t ts → if_tokens * ifs t + else_tokens * elses t ≤ length ts
unfolding ifs elses
ifs-tokens none = omega arith
ifs-tokens (set n d s) = simp length-append (omega (arith, ifs-tokens s))
ifs-tokens (out d s) = simp length-append (omega (arith, ifs-tokens s))
ifs-tokens (when {e = e} d t s) = simp length-append (omega (arith, depth_pos e, depth-tokens d, ifs-tokens t, ifs-tokens s))
ifs-tokens (either {e = e} {b = b} d t u s) =
    simp length-append (omega (arith, depth_pos e, depth-tokens d, another-one b, ifs-tokens t, ifs-tokens u, ifs-tokens s))

instr-tokens : {i : Instrument} {ts : List Token} → Instr i ts → instr_tokens + (if_tokens * ifs i.body + else_tokens * elses i.body) ≤ length ts
instr-tokens (an·instr n f d s) = simp length-append (omega (arith, ifs-tokens s))

pub ifs-by-tokens : IfsByTokens
unfolding all_ifs all_elses
ifs-by-tokens is ts (last d) = omega (arith, instr-tokens d)
ifs-by-tokens is ts (next {ts = us} {is = js} {us = vs} d o) = omega (arith, length-append us vs, instr-tokens d, ifs-by-tokens js vs o)

all-elses-ifs : (is : List Instrument) → all_elses is ≤ all_ifs is
unfolding all_ifs all_elses
all-elses-ifs [] = omega arith
all-elses-ifs (i ∷ is) = omega (arith, elses-ifs i.body, all-elses-ifs is)

some : {is : List Instrument} {ts : List Token} → Orchestra is ts → 1 ≤ length is
some (last d) = omega arith
some (next d o) = omega arith

pub ifs-fit : IfsFit
ifs-fit is ts o m =
    let l = leb-true (length ts) most_tokens (both_true (leb (length ts) most_tokens) _ m).0 in
    omega (arith, ifs-by-tokens is ts o, all-elses-ifs is, some o)
