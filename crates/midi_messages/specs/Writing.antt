-- Document 02 on a keyboard call: "whole messages per call, running status within the call and none at its start"; its faults, 1 and 2.
use Rattle.std.specs.Prelude.{ℕ, ◌≤◌, ◌<◌, ◌≡◌, List, [], ◌∷◌, ◌++◌, length, get_or, Option, Some, None}
use Rattle.base_answer.specs.declared.Answer.{Answer}
use Rattle.base_answer.specs.declared.Answer.TheVariants.{CutShort, NotCarried}
use Rattle.midi_messages.specs.Message.{first_status, first_system, none, data_bytes, classified}
use Rattle.midi_messages.specs.declared.NoteMessage.{NoteMessage}

-- the note messages of a call, in order, or the answer to its first fault
pub data Call : Type 0 where
  whole : List NoteMessage → Call
  fault : Answer → Call

-- a message before the rest of a call; of a call with a fault nothing is kept
unfoldable pub before : Option NoteMessage → Call → Call
before (Some m) (whole ms) = whole (m ∷ ms)
before (Some m) (fault a) = fault a
before None c = c

unfoldable pub AllData : List ℕ → Type 0
AllData [] = Unit {0}
AllData (b ∷ bs) = (b < first_status) × AllData bs

-- s is the status byte of a channel message, and ds are data bytes: all that it has, or too few
pub record Whole (s : ℕ) (ds : List ℕ) : Type 0 where
  pub status : first_status ≤ s
  pub channel : s < first_system
  pub plain : AllData ds
  pub full : length ds ≡ data_bytes s

pub record Part (s : ℕ) (ds : List ℕ) : Type 0 where
  pub status : first_status ≤ s
  pub channel : s < first_system
  pub plain : AllData ds
  pub few : length ds < data_bytes s

-- the end, or any status byte
pub data Stops : List ℕ → Type 0 where
  at-end : Stops []
  at-status : {b : ℕ} {bs : List ℕ} → first_status ≤ b → Stops (b ∷ bs)

-- what bytes say, s being the running status before them
pub data Parses : ℕ → List ℕ → Call → Type 0 where
  nothing : {s : ℕ} → Parses s [] (whole [])
  -- a whole message with its status byte, and one without, under the running status
  written : {s k : ℕ} {ds bs : List ℕ} {c : Call} → Whole k ds → Parses k bs c → Parses s (k ∷ (ds ++ bs)) (before (classified k (get_or ds 0 0) (get_or ds 1 0)) c)
  running : {s : ℕ} {ds bs : List ℕ} {c : Call} → Whole s ds → Parses s bs c → Parses s (ds ++ bs) (before (classified s (get_or ds 0 0) (get_or ds 1 0)) c)
  -- a system byte between messages, or data with no status
  system : {s b : ℕ} {bs : List ℕ} → first_system ≤ b → Parses s (b ∷ bs) (fault NotCarried)
  stray : {b : ℕ} {bs : List ℕ} → b < first_status → Parses none (b ∷ bs) (fault NotCarried)
  -- a message cut by the end or any status byte
  cut : {s k : ℕ} {ds bs : List ℕ} → Part k ds → Stops bs → Parses s (k ∷ (ds ++ bs)) (fault CutShort)
  running-cut : {s d : ℕ} {ds bs : List ℕ} → Part s (d ∷ ds) → Stops bs → Parses s (d ∷ (ds ++ bs)) (fault CutShort)
