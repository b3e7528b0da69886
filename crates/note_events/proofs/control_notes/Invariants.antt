use mathlib.Core.Path.{◌≡◌}
use Prim.Native.Nat.{◌≤◌, ◌-◌}
use lib.ListN.{take}
use Rattle.code_program.specs.InstrumentTable.{instruments_of}
use Rattle.player_model.specs.Lists.{each, over}
use Rattle.note_events.specs.Controls.{controlled_in}
use Rattle.note_events.proofs.control_notes.Given as goal

abbrev pub invariant-loop-j : goal.invariant-loop-j
invariant-loop-j l = (l.j ≤ l.m) × (l.m ≤ 16) × (l.a ≡ over (each (controlled_in (instruments_of l.instruments) l.label l.variable l.value) (take l.j l.notes)) l.notes)
