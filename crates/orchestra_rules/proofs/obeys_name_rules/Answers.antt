use Prim.Native.Nat.{◌-◌}
use native.Mathlib.Omega.{arith}
use borrow.Author.Rules.{rules}
use lib.ListN.{length}
use Rattle.orchestra_rules.proofs.Passing.{Inv, starts, ends-short, fails, again, ends}
use Rattle.orchestra_rules.proofs.obeys_name_rules.Goals as goal

pub loop-pc-init : goal.loop-pc-init
loop-pc-init c =
    search starts

pub returns-then-args-pc : goal.returns-then-args-pc
returns-then-args-pc c =
    search ends-short

pub returns-then-not-fine : goal.returns-then-not-fine
returns-then-not-fine c =
    search (fails, c.loop-pc.invariant, c.is_valid-fine.ensures)

pub loop-pc-preserved : goal.loop-pc-preserved
loop-pc-preserved c =
    again c.loop-pc.invariant (search rules) (search rules) c.op_class-act.ensures c.is_valid-fine.ensures (search rules) _ _ _ _ _
    c.titles_after-heads.ensures.room c.titles_after-heads.ensures.is (search rules) c.names_after-count.ensures.room c.names_after-count.ensures.is (search rules) (search rules)

pub returns : goal.returns
returns c =
    search ends
