use Prim.Native.Nat.{◌-◌}
use Rattle.code_program.specs.InstrumentTable.{instruments_of}
use Rattle.engine_k_passes.proofs.Stepping.{Looking}
use Rattle.engine_k_passes.proofs.have_k_code.Given as goal

abbrev pub invariant-loop-j : goal.invariant-loop-j
invariant-loop-j l = Looking (instruments_of l.instruments) l.notes l.m l.j
