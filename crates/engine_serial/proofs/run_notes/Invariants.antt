use Rattle.code_program.specs.InstrumentTable.{instruments_of}
use mathlib.Core.Path.{◌≡◌}
use Prim.Native.Nat.{◌≤◌, ◌-◌}
use Rattle.code_interpreter.specs.WorkingArea.{numbers_in, working_area_of}
use Rattle.engine_serial.proofs.Running.{Running}
use Rattle.engine_serial.proofs.run_notes.Given as goal

abbrev pub invariant-loop-j : goal.invariant-loop-j
invariant-loop-j l = (l.j ≤ l.m) × (l.m ≤ 16) × Running (instruments_of l.instruments) l.code l.vals l.notes l.a l.initial.mix l.mix l.j × (numbers_in l.room ≡ numbers_in (working_area_of l.vals))
