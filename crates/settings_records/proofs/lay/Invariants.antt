use Prim.Native.Nat.{◌-◌}
use lib.ListN.{length}
use Rattle.settings_records.proofs.Walk.{Laying}
use Rattle.settings_records.proofs.lay.Given as goal

abbrev pub invariant-loop-i : goal.invariant-loop-i
invariant-loop-i l = Laying l.at l.handed l.initial.area l.area l.i
