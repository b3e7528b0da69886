-- How many tokens a reading took more than it gave instructions.
use Prim.Native.Nat.{ℕ, ◌+◌}
use native.Mathlib.Omega.{arith}
use mathlib.Core.Path.{ap}
use mathlib.Core.List.{List, [], ◌∷◌}
use lib.ListN.{length, length-append}
use Rattle.orchestra_tokens.specs.declared.Token.{Token}
use Rattle.orchestra_syntax.specs.inside.Program.{Ins}
use Rattle.orchestra_expressions.specs.Reader.{Res, no, ok, seq, sign, emit, reader}
use Rattle.orchestra_expressions.proofs.Runs.{Took}
use Rattle.orchestra_expressions.proofs.ReaderSteps.{All, none, some, All-weaken, All-seq, All-if, reader-bounded}

pub sign-took : (s : ℕ) (ts : List Token) → All (Took 1 ts) (sign s ts)
sign-took s ts = All-if s ts (ok []) no (λ r e. some (record { room = omega (arith, ap length e) })) none

-- as many readings in a row as one likes, each with its surplus
pub seq-took : {k l : ℕ} {ts : List Token} {x : Res} (f : List Token → Res) → All (Took k ts) x → ((r : List Token) → All (Took l r) (f r))
    → All (Took (k + l) ts) (seq x f)
seq-took f a h = All-seq f a (λ c r t. All-weaken (h r) (λ d q g. record { room = omega (arith, t.room, g.room, length-append c d) }))

-- a sign, and one instruction
pub sign-emit : (s : ℕ) (i : Ins) (ts : List Token) → All (Took 0 ts) (seq (sign s ts) (emit i))
sign-emit s i ts = All-seq (emit i) (sign-took s ts) (λ c r t. some (record { room = omega (arith, t.room, length-append c (i ∷ [])) }))

-- an expression takes a token or more for each instruction
pub expr-took : (m : ℕ) (ts : List Token) → All (Took 0 ts) (reader.expr m ts)
expr-took m ts = All-weaken (reader-bounded.expr m ts) (λ c r h. record { room = omega (arith, h.0) })
