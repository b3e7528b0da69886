use Prim.Native.Nat.{◌-◌}
use native.Mathlib.Omega.{arith}
use lib.ListN.{length}
use borrow.Author.Rules.{rules}
use Rattle.orchestra_reader.specs.inside.Arrays.{starting}
use Rattle.orchestra_reader.proofs.Marking.{Inv, begins, again, ends}
use Rattle.orchestra_reader.proofs.starts_of.Given as goal

abbrev pub invariant-loop-pc : goal.invariant-loop-pc
invariant-loop-pc l = Inv l.ops (starting l.count l.places) l.pc
