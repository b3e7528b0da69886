use Prim.Native.Nat.{◌-◌}
use Rattle.symbol_unpacker.proofs.Laying.{Laying}
use Rattle.symbol_unpacker.proofs.lay_names.Given as goal

abbrev pub invariant-loop-i : goal.invariant-loop-i
invariant-loop-i l = Laying l.table l.count l.initial.buffer l.buffer l.at l.to l.i
