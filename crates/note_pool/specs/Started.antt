-- What a line's start leaves of the array: the notes that then sound, and behind them what was there.
use Rattle.std.specs.Prelude.{◌≡◌, ◌+◌, ◌≤◌, length, drop}
use Rattle.player_model.specs.Cycle as cycle
use Rattle.voices_compiled.specs.Voices.{VoiceState}
use Rattle.note_pool.specs.Notes.{started_in}
use Rattle.note_pool.specs.declared.Started.{Started}

pub record StartedBy (s : cycle.Started VoiceState) (v r : Started) : Type 0 where
  pub are : started_in r.notes r.count r.missed ≡ s
  pub room : r.count ≤ 16
  pub more : v.count ≤ r.count
  pub few : r.missed ≤ v.missed + 1
  pub long : length r.notes ≡ length v.notes
  pub behind : drop r.count r.notes ≡ drop r.count v.notes
