use Prim.Native.Nat.{◌-◌}
use native.Mathlib.Omega.{arith}
use lib.ListN.{length}
use borrow.Author.Rules.{rules}
use Rattle.orchestra_reader.specs.inside.Arrays.{starting}
use Rattle.orchestra_reader.proofs.Marking.{Inv, begins, again, ends}
use Rattle.orchestra_reader.proofs.starts_of.Goals as goal

pub loop-pc-init : goal.loop-pc-init
loop-pc-init c =
    search begins

pub loop-pc-preserved : goal.loop-pc-preserved
loop-pc-preserved c =
    search again

pub returns : goal.returns
returns c =
    search ends
