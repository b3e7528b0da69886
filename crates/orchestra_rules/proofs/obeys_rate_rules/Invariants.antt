use Prim.Native.Nat.{◌-◌}
use native.Mathlib.Omega.{arith}
use borrow.Author.Rules.{rules}
use lib.ListN.{length}
use Rattle.orchestra_rules.proofs.Passing.{Rated, rated-starts, rated-short, rated-fails, rated-again, rated-ends}
use Rattle.orchestra_rules.proofs.obeys_rate_rules.Given as goal

abbrev pub invariant-loop-pc : goal.invariant-loop-pc
invariant-loop-pc l = Rated l.ops l.args l.q l.pc
