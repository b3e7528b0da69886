use mathlib.Core.Path.{◌≡◌}
use Prim.Native.Nat.{◌≤◌, ◌-◌}
use lib.ListN.{take}
use Rattle.code_program.specs.InstrumentTable.{instruments_of}
use Rattle.player_model.specs.Lists.{over}
use Rattle.note_events.specs.Controls.{controlled_all}
use Rattle.note_events.proofs.control_lines.Given as goal

abbrev pub invariant-loop-i : goal.invariant-loop-i
invariant-loop-i l = (l.i ≤ l.w) × (l.w ≤ 64) × (l.v.count ≡ l.initial.v.count)
    × (l.v.notes ≡ over (controlled_all (instruments_of l.instruments) (take l.initial.v.count l.initial.v.notes) (take l.i l.lines)) l.initial.v.notes)
