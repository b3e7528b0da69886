use Prim.Native.Nat.{◌-◌}
use Rattle.settings_records.proofs.Walk.{Walking}
use Rattle.settings_records.proofs.read_records.Given as goal

abbrev pub invariant-loop-n : goal.invariant-loop-n
invariant-loop-n l = Walking l.area l.count l.at l.last l.n
