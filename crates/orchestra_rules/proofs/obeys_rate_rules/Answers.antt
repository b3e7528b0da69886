use Prim.Native.Nat.{◌-◌}
use native.Mathlib.Omega.{arith}
use borrow.Author.Rules.{rules}
use lib.ListN.{length}
use Rattle.orchestra_rules.proofs.Passing.{Rated, rated-starts, rated-short, rated-fails, rated-again, rated-ends}
use Rattle.orchestra_rules.proofs.obeys_rate_rules.Goals as goal

pub loop-pc-init : goal.loop-pc-init
loop-pc-init c =
    rated-starts _ _

pub returns-then-args-pc : goal.returns-then-args-pc
returns-then-args-pc c =
    search rated-short

pub returns-then-not-fine : goal.returns-then-not-fine
returns-then-not-fine c =
    search rated-fails

pub loop-pc-preserved : goal.loop-pc-preserved
loop-pc-preserved c =
    search rated-again

pub returns : goal.returns
returns c =
    search rated-ends
