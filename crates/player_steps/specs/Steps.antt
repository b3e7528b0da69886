-- Steps 2 to 8 on what plays, as the panel keeps it.
use Rattle.std.specs.Prelude.{List, length, take}
use Rattle.midi_queue.specs.Keyboard.{messages_in}
use Rattle.player_model.specs.Lists.{each, over}
use Rattle.player_model.specs.Cycle.{Voices}
use Rattle.player_model.specs.PlayerState.{Settings, Due, PlayingState, played}
use Rattle.player_model.specs.inside.PlayerState.{capped}
use Rattle.voices_compiled.specs.Voices.{VoiceState}
use Rattle.note_lifecycle.specs.OneNote.{struct_of}
use Rattle.player_steps.specs.declared.Due.{Due as DueNow}
use Rattle.player_steps.specs.declared.Performed.{Performed}
use Rattle.player_state.specs.Playing.{playing_state_of}
use Rattle.player_state.specs.declared.Playing.{Playing}

-- what acts: the first lines of an array, and the note messages that wait
abbrev pub due_in : DueNow → Due
due_in due = record { lines = take due.lines.count due.lines.lines; messages = messages_in due.messages }

-- what plays now, laid over what played before: the array keeps what the notes do not reach
abbrev pub laid_over : Playing → PlayingState VoiceState → Playing
laid_over old p =
    record {
      notes = record { notes = over (each struct_of p.notes) old.notes.notes; count = length p.notes };
      position = p.position;
      tempo = p.tempo;
      missed = p.counts.missed;
      ended = p.ended;
    }

-- steps 2 to 8
unfoldable pub advanced : Voices VoiceState → Settings → Due → Playing → Playing
advanced v s due p = laid_over p (capped (played v s due (playing_state_of p)))

-- steps 3 to 7: the notes and the count of missed notes
unfoldable pub performed_of : Voices VoiceState → Settings → Due → Playing → Performed
unfolding advanced
performed_of v s due p = record { notes = (advanced v s due p).notes; missed = (advanced v s due p).missed }
