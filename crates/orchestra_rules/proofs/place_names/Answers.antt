use Prim.Native.Nat.{◌-◌}
use native.Mathlib.Omega.{arith}
use borrow.Author.Rules.{rules}
use lib.ListN.{length}
use Rattle.orchestra_rules.proofs.Passing.{Put, put-starts, put-short, put-again, put-ends}
use Rattle.orchestra_rules.proofs.place_names.Goals as goal

pub loop-pc-init : goal.loop-pc-init
loop-pc-init c =
    search put-starts

pub returns-then-args-pc : goal.returns-then-args-pc
returns-then-args-pc c =
    search put-short

pub loop-pc-preserved : goal.loop-pc-preserved
loop-pc-preserved c =
    put-again c.loop-pc.invariant (search rules) (search rules) c.op_class-act.ensures c.placed.ensures _ _ _
    c.names_after-count.ensures.room c.names_after-count.ensures.is (search rules) (search rules)

pub returns : goal.returns
returns c =
    search put-ends
