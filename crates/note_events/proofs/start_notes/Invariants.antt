use Prim.Native.Nat.{◌≤◌, ◌-◌}
use lib.ListN.{take}
use Rattle.code_program.specs.InstrumentTable.{instruments_of}
use Rattle.player_model.specs.Cycle.{position_limit, started}
use Rattle.voices_compiled.specs.Voices.{voices}
use Rattle.note_pool.specs.Notes.{notes_in}
use Rattle.note_pool.proofs.Steps.{Starting}
use Rattle.note_events.proofs.start_notes.Given as goal

abbrev pub invariant-loop-i : goal.invariant-loop-i
invariant-loop-i l = (l.i ≤ l.w) × (l.w ≤ 64) × (l.v.missed ≤ l.i) × (l.position ≤ position_limit) × (l.most ≤ 16)
    × Starting (started (voices (instruments_of l.instruments) l.code l.vals) l.most l.position (notes_in l.initial.v.notes l.initial.v.count) (take l.i l.lines)) l.initial.v.notes l.v
