-- What plays, and what a cycle goes by, in the player's words.
use Rattle.std.specs.Prelude.{List, ℕ, min}
use Rattle.player_model.specs.Cycle as cycle
use Rattle.player_model.specs.PlayerState.{Settings, settings_of, PlayingState}
use Rattle.voices_compiled.specs.Voices.{VoiceState}
use Rattle.note_pool.specs.Notes.{notes_in}
use Rattle.note_pool.specs.declared.Notes.{Notes}
use Rattle.player_state.specs.declared.Playing.{Playing}
use Rattle.player_state.specs.declared.Settings.{Settings as Fixed}

-- the notes that sound
abbrev pub sounding_in : Notes → List (cycle.Note VoiceState)
sounding_in n = notes_in n.notes n.count

-- what plays, its notes as a list
abbrev pub playing_state_of : Playing → PlayingState VoiceState
playing_state_of p =
    record {
      notes = sounding_in p.notes;
      position = p.position;
      tempo = p.tempo;
      counts = record { missed = p.missed };
      ended = p.ended;
    }

-- as many notes as there are places for
abbrev pub most_places : ℕ
most_places = 16

-- what a cycle goes by
abbrev pub settings_in : Fixed → Settings
settings_in s = settings_of s.ceiling (min s.notes most_places) s.chosen
