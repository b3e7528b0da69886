-- The a code of every accepted orchestra in the engine's rooms.
use Prim.Native.Nat.{ℕ, ◌+◌, ◌≤◌}
use native.Mathlib.Omega.{arith}
use mathlib.Core.Path.{◌≡◌, refl}
use mathlib.Core.List.{List, [], ◌∷◌, ◌++◌, map}
use lib.ListN.{length}
use lib.Dec.{leb}
use lib.Ieee.{Float}
use borrow.Author.Tests.{leb-true}
use Rattle.base_laws.proofs.Choice.{both_true}
use Rattle.orchestra_tokens.specs.declared.Token.{Token}
use Rattle.orchestra_tokens.specs.Measures.{most_tokens}
use Rattle.orchestra_syntax.specs.Tree.{Expr, number, name, unary, binary, choose, Statements, done, assign, output, branch, Instrument}
use Rattle.orchestra_syntax.specs.Names.{Named, most_instruments, names_of}
use Rattle.orchestra_syntax.specs.Grammar.{Orchestra, last, next}
use Rattle.orchestra_syntax.specs.inside.Program.{instrument, program}
use Rattle.orchestra_syntax.specs.inside.Placed.{put_in, put, placed}
use Rattle.code_translation.specs.Translation.{lowered}
use Rattle.code_bounds.specs.Sizes.{numbers, body_at, AllPlayable, all_lowered}
use Rattle.code_bounds.proofs.WholeOrchestra.{orchestra-playable}
use Rattle.code_bounds.proofs.Lengths.{lowered-fits}
use Rattle.code_decoder.specs.Decoded.{count_of}
use Rattle.engine_rows.specs.Instruction.{outs_of}
use Rattle.engine_capacity.specs.Capacity.{numbers_in, numbers_of, outputs_of, all_numbers, all_outputs, EngineHolds}
use Rattle.engine_capacity.proofs.Tokens.{numbers-by-tokens, outputs-by-tokens}
use Rattle.engine_capacity.proofs.Counts.{count-append, outs-append, count-lowered, outs-lowered}

module _ (ms : List Named) where
  numbers-in : (e : Expr) → numbers_in (put_in ms e) ≡ numbers_in e
  unfolding numbers_in put_in
  numbers-in (number x) = refl
  numbers-in (name c) = refl
  numbers-in (unary o e) = numbers-in e
  numbers-in (binary o a b) = omega (arith, numbers-in a, numbers-in b)
  numbers-in (choose c a b) = omega (arith, numbers-in c, numbers-in a, numbers-in b)

  numbers-put : (t : Statements) → numbers_of (put ms t) ≡ numbers_of t
  unfolding numbers_of put
  numbers-put done = refl
  numbers-put (assign c e t) = omega (arith, numbers-in e, numbers-put t)
  numbers-put (output e t) = omega (arith, numbers-in e, numbers-put t)
  numbers-put (branch e a b t) = omega (arith, numbers-in e, numbers-put a, numbers-put b, numbers-put t)

  outputs-put : (t : Statements) → outputs_of (put ms t) ≡ outputs_of t
  unfolding outputs_of put
  outputs-put done = refl
  outputs-put (assign c e t) = outputs-put t
  outputs-put (output e t) = omega (arith, outputs-put t)
  outputs-put (branch e a b t) = omega (arith, outputs-put a, outputs-put b, outputs-put t)

all-counted : (vals : List Float) (r n : ℕ) (is : List Instrument) → AllPlayable vals n (map placed is) → count_of (all_lowered r n (map placed is)) ≤ all_numbers is
unfolding all_lowered all_numbers count_of AllPlayable
all-counted vals r n [] h = omega arith
all-counted vals r n (i ∷ is) h =
    let p = placed i in
    let m = body_at n p in
    let k = n + length (instrument p) in
    omega (
      arith,
      count-append (lowered r m 0 p.body) (all_lowered r k (map placed is)),
      count-lowered vals r m 0 p.body h.0 (omega arith),
      numbers-put (names_of i) i.body,
      all-counted vals r k is h.1,
    )

all-put-out : (r n : ℕ) (is : List Instrument) → outs_of (all_lowered r n (map placed is)) ≤ all_outputs is
unfolding all_lowered all_outputs outs_of
all-put-out r n [] = omega arith
all-put-out r n (i ∷ is) =
    let p = placed i in
    let m = body_at n p in
    let k = n + length (instrument p) in
    omega (
      arith,
      outs-append (lowered r m 0 p.body) (all_lowered r k (map placed is)),
      outs-lowered r m 0 p.body,
      outputs-put (names_of i) i.body,
      all-put-out r k is,
    )

some : {is : List Instrument} {ts : List Token} → Orchestra is ts → 1 ≤ length is
some (last d) = omega arith
some (next d o) = omega arith

pub engine-holds : EngineHolds
engine-holds bs is a =
    let ts = a.tokens in
    let o = a.derived in
    let m = a.sized.within in
    let l = leb-true (length ts) most_tokens (both_true (leb (length ts) most_tokens) _ m).0 in
    let f = leb-true (length is) most_instruments (both_true (leb (length is) most_instruments) _ a.named).0 in
    record {
      groups = f;
      words = lowered-fits is ts 2 o m;
      rows = omega (arith, all-put-out 2 0 is, outputs-by-tokens is ts o, some o);
      numbers = omega (arith, all-counted (numbers (program (map placed is)) ++ []) 2 0 is (orchestra-playable is ts [] o m), numbers-by-tokens is ts o);
    }
