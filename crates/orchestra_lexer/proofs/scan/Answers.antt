use mathlib.Core.Path.{refl}
use Prim.Native.Nat.{◌+◌, ◌-◌}
use native.Mathlib.Omega.{arith}
use borrow.Author.Rules.{rules}
use lib.ListN.{length}
use Rattle.orchestra_lexer.proofs.Passing.{Inv, starts, again, ends-closed, ends-bad, ends-short}
use Rattle.orchestra_lexer.proofs.scan.Goals as goal

pub loop-at-init : goal.loop-at-init
loop-at-init c =
    starts _

pub returns-then-k : goal.returns-then-k
returns-then-k c =
    search ends-closed

pub returns-then-not-is_valid : goal.returns-then-not-is_valid
returns-then-not-is_valid c =
    ends-bad c.loop-at.invariant _ c.loop-at-test.true refl c.if-k.false c.is_valid.ensures (rw c.if-not-is_valid.true)

pub loop-at-preserved : goal.loop-at-preserved
loop-at-preserved c =
    search again

pub returns : goal.returns
returns c =
    search ends-short
