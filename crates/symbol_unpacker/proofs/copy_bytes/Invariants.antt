use Prim.Native.Nat.{◌-◌}
use Rattle.symbol_unpacker.proofs.Laying.{Copying}
use Rattle.symbol_unpacker.proofs.copy_bytes.Given as goal

abbrev pub invariant-loop-j : goal.invariant-loop-j
invariant-loop-j l = Copying l.table l.initial.buffer l.buffer l.at l.n l.to l.j
