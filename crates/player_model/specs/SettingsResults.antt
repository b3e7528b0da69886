-- What document 02 says of settings (M-107), as results: the definitions of `Set` go by the reader and by floats, these statements by records and
-- whole numbers.
use Rattle.std.specs.Prelude.{◌≡◌, false, List, ℕ, ◌+◌, ◌-◌, ◌*◌, ◌≤◌, length}
use Rattle.base_timebase.specs.Time.{cycle_in}
use Rattle.score_line.specs.declared.Line.{Line}
use Rattle.settings_records.specs.Form.{version_one, sets, found, IsRecord, ParsesRecords}
use Rattle.settings_records.specs.Changes.{in_use}
use Rattle.settings_records.specs.declared.InUse.{InUse}
use Rattle.settings_records.specs.declared.Setting.{Setting}
use Rattle.player_model.specs.Lists.{All}
use Rattle.player_model.specs.Cycle.{Voices}
use Rattle.player_model.specs.PlayerState.{Settings, Due, PlayingState, default_tempo, started_of}
use Rattle.player_model.specs.Calls.{change, undo, numbered, Transition}
use Rattle.player_model.specs.Set.{set_by, starting_tempo}
use Rattle.player_model.specs.History.{history_of}

-- A change that is answered 0 sets what the record says that is handed in, with one record more in use; an undo what the last record says that is
-- then in use, as its bytes stand in the area, with one fewer.
pub record SetByRecords : Type 0 where
  pub change : (k : InUse) (area handed : List ℕ) (s : Setting) → IsRecord handed s → set_by k (change area handed) ≡ in_use (k.count + 1) s
  pub undo : (k : InUse) (area : List ℕ) (s : Setting) (size : ℕ) → ParsesRecords (k.count - 1) area (found s size)
      → set_by k (undo area) ≡ in_use (k.count - 1) s

-- "Ticks per cycle of a tempo T: T times 1,024", for every starting tempo; "Version 1 means tempo 60".
pub record StartingTicks : Type 0 where
  pub every : (k : InUse) → 1 ≤ k.last.tempo → k.last.tempo ≤ 960 → cycle_in (starting_tempo k) ≡ k.last.tempo * 1024
  pub version_one : (count ceiling notes : ℕ) → starting_tempo (in_use count (sets (version_one ceiling notes))) ≡ default_tempo

-- "the starting tempo only at a fresh start": until the first cycle, whatever is called, changes and undos too, the tempo is that of the fresh start.
unfoldable pub TempoOfFreshStart : {S : Type 0} → Voices S → Type 1
TempoOfFreshStart v =
    (P : Type 0) (chosen : ℕ) (k : InUse) (ms : List (Transition P)) → All (λ (m : Transition P). numbered m.call ≡ false) ms
    → (history_of v chosen k ms).holds.plays.tempo ≡ starting_tempo k

-- "sounding notes stay": where at least the set number sound, step 3 starts no note without priority and removes none.
unfoldable pub SoundingStay : {S : Type 0} → Voices S → Type 0
SoundingStay {S} v =
    (s : Settings) (due : Due) (p : PlayingState S) → s.most_notes ≤ length p.notes → All (λ (l : Line). l.priority ≡ false) due.lines
    → (started_of v s due p).notes ≡ p.notes
