use Prim.Native.Nat.{◌-◌}
use native.Mathlib.Omega.{arith}
use borrow.Author.Rules.{rules}
use lib.ListN.{length}
use Rattle.orchestra_rules.proofs.Passing.{Put, put-starts, put-short, put-again, put-ends}
use Rattle.orchestra_rules.proofs.place_names.Given as goal

abbrev pub invariant-loop-pc : goal.invariant-loop-pc
invariant-loop-pc l = Put l.ops l.initial.args l.args l.symbols l.kinds l.count l.pc
