use Prim.Native.Nat.{◌-◌}
use Rattle.symbol_unpacker.proofs.Measuring.{Measures}
use Rattle.symbol_unpacker.proofs.measure.Given as goal

abbrev pub invariant-loop-i : goal.invariant-loop-i
invariant-loop-i l = Measures l.table l.count l.at l.total l.i
