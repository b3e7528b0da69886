use Prim.Native.Nat.{◌-◌}
use Rattle.code_program.specs.InstrumentTable.{instruments_of}
use Rattle.engine_k_passes.proofs.Stepping.{Stepping}
use Rattle.engine_k_passes.proofs.run_serially.Given as goal

abbrev pub invariant-loop-j : goal.invariant-loop-j
invariant-loop-j l = Stepping (instruments_of l.instruments) l.code l.vals l.notes l.m l.room l.a l.j
