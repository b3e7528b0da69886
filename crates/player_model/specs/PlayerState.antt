-- What a player holds, in two parts, and document 01's cycle as a function of the settings, the due lines and what plays.
use Rattle.std.specs.Prelude.{Bool, true, false, not, ◌||◌, cond, List, [], ◌++◌, ℕ, ◌+◌, ℤ, ltb, Float}
use Rattle.std.specs.Float.{binary32}
use Rattle.std.specs.Float.Ieee.{of_bits}
use Rattle.base_timebase.specs.Time.{cycle_in}
use Rattle.score_line.specs.declared.Line.{Line}
use Rattle.midi_messages.specs.declared.NoteMessage.{NoteMessage}
use Rattle.player_model.specs.Lists.{filter}
use Rattle.player_model.specs.Cycle.{Voices, Note, Started, Rendered, is_due, ordered, position_limit, any_end, last_tempo, started, controlled, after_messages, run_all, limited, goes_on}

-- what a cycle goes by
pub record Settings : Type 0 where
  pub ceiling : ℕ
  -- the most notes that sound at once
  pub most_notes : ℕ
  -- the instrument of the keyboard's notes, by its name
  pub chosen : ℕ

abbrev pub settings_of : ℕ → ℕ → ℕ → Settings
settings_of ceiling most chosen = record { ceiling = ceiling; most_notes = most; chosen = chosen }

-- tempo 60, document 01's starting tempo: that of a version 1 record
unfoldable pub default_tempo : Float
default_tempo = of_bits binary32 0x42700000

-- what a player counts; condition 3 compares it whole
pub record Counts : Type 0 where
  -- how many notes were missed
  pub missed : ℕ

-- what plays
pub record PlayingState (S : Type 0) : Type 0 where
  -- the sounding notes, oldest first
  pub notes : List (Note S)
  pub position : ℕ
  pub tempo : Float
  pub counts : Counts
  -- whether the piece is ended
  pub ended : Bool

-- what a player holds between two calls: the waiting lines and note messages, each in order of arrival, and what plays
pub record PlayerState (S : Type 0) : Type 0 where
  pub waits : List Line
  pub messages : List NoteMessage
  pub plays : PlayingState S

-- what acts in a cycle: the due lines, in order, and the note messages that wait
pub record Due : Type 0 where
  pub lines : List Line
  pub messages : List NoteMessage

-- ---- what waits

-- the due lines, in order
unfoldable pub due_at : ℕ → List Line → List Line
due_at position waits = ordered (filter (is_due position) waits)

-- and those that are not due
unfoldable pub later_than : ℕ → List Line → List Line
later_than position waits = filter (λ (l : Line). not (is_due position l)) waits

module _ {S : Type 0} where
  -- lines that are taken wait behind the others
  unfoldable pub behind : List Line → PlayerState S → PlayerState S
  behind ls h = record { waits = h.waits ++ ls; messages = h.messages; plays = h.plays }

  -- and so do note messages
  unfoldable pub with_messages : List NoteMessage → PlayerState S → PlayerState S
  with_messages ms h = record { waits = h.waits; messages = h.messages ++ ms; plays = h.plays }

  -- what acts in the next cycle
  abbrev pub due_of : PlayerState S → Due
  due_of h = record { lines = due_at h.plays.position h.waits; messages = h.messages }

  -- ---- step 1

  -- an end line is due, or the position is past the limit
  unfoldable pub ends_by : Due → PlayingState S → Bool
  ends_by due p = ltb position_limit p.position || any_end due.lines

  -- the piece is ended: nothing else changes
  unfoldable pub marked_ended : PlayingState S → PlayingState S
  marked_ended p = record { notes = p.notes; position = p.position; tempo = p.tempo; counts = p.counts; ended = true }

  -- the number that the next cycle answers
  unfoldable pub answer_of : PlayerState S → ℕ
  answer_of h = cond h.plays.ended 9 (cond (ends_by (due_of h) h.plays) 9 0)

-- ---- steps 2 to 8

module _ {S : Type 0} (v : Voices S) (s : Settings) where
  -- step 3
  unfoldable pub started_of : Due → PlayingState S → Started S
  started_of due p = started v s.most_notes p.position p.notes due.lines

  -- steps 3 and 4, and then the note messages
  unfoldable pub notes_to_run : Due → PlayingState S → Started S
  notes_to_run due p =
      after_messages v s.most_notes s.chosen
      (record { notes = controlled v (started_of due p).notes due.lines; missed = (started_of due p).missed }) due.messages

  -- and step 5
  unfoldable pub rendered_of : Due → PlayingState S → Rendered S
  rendered_of due p = run_all v (notes_to_run due p).notes

  -- step 6: the block
  unfoldable pub block_of : Due → PlayingState S → List ℤ
  block_of due p = limited s.ceiling (rendered_of due p).mix

  -- all of them: the notes that are over are removed, the position grows
  unfoldable pub played : Due → PlayingState S → PlayingState S
  played due p =
      record {
        notes = filter (goes_on p.position) (rendered_of due p).notes;
        position = p.position + cycle_in (last_tempo p.tempo due.lines);
        tempo = last_tempo p.tempo due.lines;
        counts = record { missed = p.counts.missed + (notes_to_run due p).missed };
        ended = false;
      }

  -- a whole cycle: steps 1 to 8, or the end at step 1; after the end nothing changes. What has acted waits no more.
  unfoldable pub cycled : PlayerState S → PlayerState S
  cycled h =
      cond h.plays.ended h
      (cond (ends_by (due_of h) h.plays) (record { waits = h.waits; messages = h.messages; plays = marked_ended h.plays })
      (record { waits = later_than h.plays.position h.waits; messages = []; plays = played (due_of h) h.plays }))
