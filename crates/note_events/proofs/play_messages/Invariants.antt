use Prim.Native.Nat.{◌+◌, ◌≤◌, ◌-◌}
use lib.ListN.{take}
use Rattle.code_program.specs.InstrumentTable.{instruments_of}
use Rattle.player_model.specs.Cycle.{after_messages}
use Rattle.voices_compiled.specs.Voices.{voices}
use Rattle.note_pool.specs.Notes.{started_in}
use Rattle.note_pool.proofs.Steps.{Starting}
use Rattle.note_events.proofs.play_messages.Given as goal

abbrev pub invariant-loop-next : goal.invariant-loop-next
invariant-loop-next l = (l.next ≤ l.count) × (l.count ≤ 64) × (l.v.missed ≤ 64 + l.next) × (l.most ≤ 16)
    × Starting (after_messages (voices (instruments_of l.instruments) l.code l.vals) l.most l.chosen (started_in l.initial.v.notes l.initial.v.count l.initial.v.missed) (take l.next l.messages)) l.initial.v.notes l.v
