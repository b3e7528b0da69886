use Prim.Native.Nat.{◌-◌}
use native.Mathlib.Omega.{arith}
use borrow.Author.Rules.{rules}
use lib.ListN.{length}
use Rattle.orchestra_rules.proofs.Passing.{Inv, starts, ends-short, fails, again, ends}
use Rattle.orchestra_rules.proofs.obeys_name_rules.Given as goal

abbrev pub invariant-loop-pc : goal.invariant-loop-pc
invariant-loop-pc l = Inv l.ops l.args l.titles l.symbols l.kinds l.heads l.count l.pc
