-- Calls as they are made, what each leaves, and the one trace of a list of calls.
use Rattle.std.specs.Prelude.{Bool, true, false, ◌&&◌, cond, List, [], ◌∷◌, ◌++◌, ℕ, suc, ℤ, length, eqb}
use Rattle.base_answer.specs.Numbers.{is_taken}
use Rattle.base_bitstream.specs.Bits.{bits_of}
use Rattle.score_line.specs.Reading.{keypad_line}
use Rattle.score_line.specs.declared.When.{When}
use Rattle.score_line.specs.declared.When.TheVariants.{Timed, Untimed}
use Rattle.score_line.specs.declared.Line.{Line}
use Rattle.score_line.specs.declared.LineRead.{LineRead}
use Rattle.score_reader.specs.Score.{Score, score_of, unit_of}
use Rattle.text_format.specs.inside.Reading.{text_of}
use Rattle.score_bursts.specs.Bursts.{units_in}
use Rattle.score_bursts.specs.inside.Reading.{burst_of}
use Rattle.midi_messages.specs.Writing as midi
use Rattle.midi_messages.specs.inside.Reading.{call_of}
use Rattle.midi_messages.specs.declared.NoteMessage.{NoteMessage}
use Rattle.player_model.specs.Lists.{each}
use Rattle.player_model.specs.Cycle.{samples}
use Rattle.player_model.specs.PlayerState.{Counts}

-- ---- entrances

pub data Entrance : Type 0 where
  stick : Entrance
  unit : Entrance
  keypad : Entrance
  -- (M-100) a score as text
  text : Entrance

-- whether a line that comes by this entrance must have a time (6)
abbrev pub must_be_timed : Entrance → Bool
must_be_timed stick = true
must_be_timed unit = false
must_be_timed keypad = false
must_be_timed text = true

abbrev pub has_time : When → Bool
has_time (Timed late t) = true
has_time Untimed = false

-- a line that was read on its own, as a score
abbrev pub single : LineRead → Score
single r = record { answer = r.answer; line = 0; lines = cond (is_taken r.answer) (r.line ∷ []) [] }

-- what is handed in at an entrance, read whole: the first fault and its line's number, or the lines
abbrev pub reads : Entrance → List ℕ → Score
reads stick bytes = score_of (bits_of bytes)
reads unit bytes = single (unit_of (bits_of bytes))
reads keypad numbers = single (keypad_line numbers)
reads text bytes = text_of bytes

-- ---- calls

-- bytes or numbers at an entrance, the bytes of a burst with an answer area as it is lent, bytes at the keyboard, a block as it is lent, a settings
-- area as it is lent and the record to put behind those in use, or a settings area to step back in
pub data Call : Type 0 where
  submit : Entrance → List ℕ → Call
  -- (M-103) many units in one call
  burst : List ℕ → List ℕ → Call
  keyboard : List ℕ → Call
  cycle : List ℤ → Call
  -- (M-107) settings with a past
  change : List ℕ → List ℕ → Call
  undo : List ℕ → Call

-- the lines that a call holds, for each answer that it gets: a burst has one of its own, which holds none, and one for each of its units
abbrev pub lines_of : Call → List (List Line)
lines_of (submit d handed) = (reads d handed).lines ∷ []
lines_of (burst bytes area) = [] ∷ each (λ (u : List ℕ). (reads unit u).lines) (units_in (burst_of bytes))
lines_of (keyboard bytes) = [] ∷ []
lines_of (cycle block) = [] ∷ []
lines_of (change area handed) = [] ∷ []
lines_of (undo area) = [] ∷ []

-- the note messages that bytes are, none where they have a fault
abbrev pub whole_messages : midi.Call → List NoteMessage
whole_messages (midi.whole ms) = ms
whole_messages (midi.fault a) = []

-- the note messages that a call holds
abbrev pub messages_in : Call → List NoteMessage
messages_in (submit d handed) = []
messages_in (burst bytes area) = []
messages_in (keyboard bytes) = whole_messages (call_of bytes)
messages_in (cycle block) = []
messages_in (change area handed) = []
messages_in (undo area) = []

-- an answer: its number, and the number of the line that it is about
pub record Answer : Type 0 where
  pub number : ℕ
  pub line : ℕ

-- a call's only answer
abbrev pub one : ℕ → ℕ → List Answer
one number line = record { number = number; line = line } ∷ []

-- document 01's lent memory: a block, the places for the answers of a burst's units, a settings area; empty where a call is lent none
pub record Buffers : Type 0 where
  pub block : List ℤ
  pub answers : List ℕ
  pub settings : List ℕ

abbrev pub no_buffers : Buffers
no_buffers = record { block = []; answers = []; settings = [] }

abbrev pub only_block : List ℤ → Buffers
only_block b = record { block = b; answers = []; settings = [] }

abbrev pub only_answers : List ℕ → Buffers
only_answers area = record { block = []; answers = area; settings = [] }

abbrev pub only_settings : List ℕ → Buffers
only_settings area = record { block = []; answers = []; settings = area }

-- the buffers that a call is lent, as they are lent
abbrev pub buffers_of : Call → Buffers
buffers_of (submit d handed) = no_buffers
buffers_of (burst bytes area) = only_answers area
buffers_of (keyboard bytes) = no_buffers
buffers_of (cycle block) = only_block block
buffers_of (change area handed) = only_settings area
buffers_of (undo area) = only_settings area

-- what a call leaves: the player, the answers, and the buffers that it was lent
pub record After (P : Type 0) : Type 0 where
  pub player : P
  pub answers : List Answer
  pub buffers : Buffers

-- a player: what its calls leave, and what it counts. It does not say which lines it took.
pub record Player (P : Type 0) : Type 0 where
  pub after : P → Call → After P
  pub counts : P → Counts

-- a cycle call lent a block of 320 samples: these are numbered from 0
abbrev pub numbered : Call → Bool
numbered (submit d handed) = false
numbered (burst bytes area) = false
numbered (keyboard bytes) = false
numbered (cycle block) = eqb (length block) samples
numbered (change area handed) = false
numbered (undo area) = false

-- the lines taken: of every part that is answered 0
abbrev pub taken_of : List (List Line) → List Answer → List Line
taken_of [] given = []
taken_of (ls ∷ rest) [] = []
taken_of (ls ∷ rest) (a ∷ given) = cond (eqb a.number 0) ls [] ++ taken_of rest given

abbrev pub is_zero : List Answer → Bool
is_zero [] = false
is_zero (a ∷ given) = eqb a.number 0

-- ---- the trace

-- the number of the last cycle that answered 0
pub data Last : Type 0 where
  none : Last
  latest : ℕ → Last

pub record Transition (P : Type 0) : Type 0 where
  pub call : Call
  -- how many numbered cycle calls came before it, and the last of them that answered 0
  pub cycles : ℕ
  pub last : Last
  pub before : P
  pub after : After P

module _ {P : Type 0} where
  abbrev pub taken_in : Transition P → List Line
  taken_in m = taken_of (lines_of m.call) m.after.answers

  -- the note messages taken: all of a call that is answered 0
  abbrev pub messages_taken : Transition P → List NoteMessage
  messages_taken m = cond (is_zero m.after.answers) (messages_in m.call) []

  -- how many numbered cycle calls there are up to and with this one
  abbrev pub cycles_with : Transition P → ℕ
  cycles_with m = cond (numbered m.call) (suc m.cycles) m.cycles

  abbrev pub last_with : Transition P → Last
  last_with m = cond (numbered m.call && is_zero m.after.answers) (latest m.cycles) m.last

  -- the lines taken, in order of arrival
  unfoldable pub all_taken : List (Transition P) → List Line
  all_taken [] = []
  all_taken (m ∷ ms) = taken_in m ++ all_taken ms

module _ {P : Type 0} (e : Player P) where
  abbrev pub transition_of : ℕ → Last → P → Call → Transition P
  transition_of k z p c = record { call = c; cycles = k; last = z; before = p; after = e.after p c }

  unfoldable pub trace_from : ℕ → Last → P → List Call → List (Transition P)
  trace_from k z p [] = []
  trace_from k z p (c ∷ cs) =
      let m = transition_of k z p c in m ∷ trace_from (cycles_with m) (last_with m) (e.after p c).player cs

  -- the transitions of a list of calls on a fresh player
  abbrev pub trace : P → List Call → List (Transition P)
  trace p cs = trace_from 0 none p cs

  -- the player after them
  unfoldable pub after_all : P → List Call → P
  after_all p [] = p
  after_all p (c ∷ cs) = after_all (e.after p c).player cs

  -- their answers, in order
  unfoldable pub answers_all : P → List Call → List Answer
  answers_all p [] = []
  answers_all p (c ∷ cs) = (e.after p c).answers ++ answers_all (e.after p c).player cs
