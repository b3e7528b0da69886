use Prim.Native.Nat.{◌-◌}
use native.Mathlib.Omega.{arith}
use borrow.Author.Rules.{rules}
use Rattle.orchestra_name_rules.proofs.Seeking.{Inv, starts, found, again, ends}
use Rattle.orchestra_name_rules.proofs.seek.Goals as goal

pub loop-i-init : goal.loop-i-init
loop-i-init c =
    search starts

pub returns-then-table-i : goal.returns-then-table-i
returns-then-table-i c =
    search found

pub loop-i-preserved : goal.loop-i-preserved
loop-i-preserved c =
    search again

pub returns : goal.returns
returns c =
    search ends
