use Prim.Native.Nat.{◌-◌}
use native.Mathlib.Omega.{arith}
use borrow.Author.Rules.{rules}
use Rattle.orchestra_name_rules.proofs.Seeking.{Inv, starts, found, again, ends}
use Rattle.orchestra_name_rules.proofs.seek.Given as goal

abbrev pub invariant-loop-i : goal.invariant-loop-i
invariant-loop-i l = Inv l.table l.n l.s l.i
