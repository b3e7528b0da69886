-- What each call answers, by its history: document 01's table of refusal numbers and its order of faults.
use Rattle.std.specs.Prelude.{◌≡◌, Bool, true, false, not, ◌&&◌, cond, List, [], ◌∷◌, ◌++◌, ℕ, suc, ◌+◌, ◌≤◌, ◌<◌, ℤ, length, leb, eqb}
use Rattle.base_answer.specs.Numbers.{number_of, is_taken}
use Rattle.settings_records.specs.Form as settings
use Rattle.settings_records.specs.Changes.{area_bytes}
use Rattle.settings_records.specs.declared.Setting.{Setting}
use Rattle.base_answer.specs.declared.Answer as answer-type
use Rattle.base_answer.specs.declared.Answer.TheVariants as answer
use Rattle.base_timebase.specs.Time.{ticks_in}
use Rattle.score_line.specs.declared.When.{When}
use Rattle.score_line.specs.declared.When.TheVariants.{Timed, Untimed}
use Rattle.score_line.specs.declared.Event.{Event}
use Rattle.score_line.specs.declared.Event.TheVariants.{Instr, Control, End, Tempo}
use Rattle.score_line.specs.declared.Line.{Line}
use Rattle.orchestra_syntax.specs.Tree.{Instrument}
use Rattle.score_bursts.specs.Bursts.{most_units}
use Rattle.score_bursts.specs.Bursts as bursts
use Rattle.midi_messages.specs.Message.{none as no_status}
use Rattle.midi_messages.specs.Writing.{Parses}
use Rattle.midi_messages.specs.Writing as midi
use Rattle.midi_messages.specs.declared.NoteMessage.{NoteMessage}
use Rattle.player_model.specs.PlayerState.{behind, due_of, ends_by}
use Rattle.player_model.specs.Calls.{Entrance, unit, must_be_timed, has_time, reads, Call, submit, burst, keyboard, cycle, change, undo, Answer, one, numbered}
use Rattle.player_model.specs.History.{Reached, nowhere, at, History}

-- ---- one line

-- the instrument of that name has as many fields as there are values, or more
pub data HasFields (name values : ℕ) : List Instrument → Type 0 where
  here : {i : Instrument} {is : List Instrument} → i.name ≡ name → values ≤ length i.fields → HasFields name values (i ∷ is)
  there : {i : Instrument} {is : List Instrument} → (i.name ≡ name → ⊥) → HasFields name values is → HasFields name values (i ∷ is)

-- no refusal 4: only an instr line can have it
abbrev pub Playable : List Instrument → ℕ → Event → Type 0
Playable is values (Instr label name duration) = HasFields name values is
Playable is values (Control label x value) = Unit {0}
Playable is values End = Unit {0}
Playable is values (Tempo t) = Unit {0}

-- late, and use-if-late not set: the ticks are at most the position of the last cycle that answered 0
abbrev pub too_late : Reached → When → Bool
too_late nowhere w = false
too_late (at position) (Timed use_if_late t) = leb (ticks_in t) position && not use_if_late
too_late (at position) Untimed = false

-- the most lines that wait, and the most note messages
abbrev pub most_lines : ℕ
most_lines = 64

abbrev pub most_messages : ℕ
most_messages = 64

module _ (is : List Instrument) (d : Entrance) (reached : Reached) where
  -- a line that is taken when so many wait: 6, 4, 7 and 8 do not hold of it
  pub record Fits (waiting : ℕ) (l : Line) : Type 0 where
    pub timed : must_be_timed d ≡ true → has_time l.when ≡ true
    pub playable : Playable is l.count l.event
    pub early : too_late reached l.when ≡ false
    pub room : waiting < most_lines

  -- earlier lines of the same call count as waiting
  abbrev pub AllFit : ℕ → List Line → Type 0
  AllFit waiting [] = Unit {0}
  AllFit waiting (l ∷ ls) = Fits waiting l × AllFit (suc waiting) ls

  -- a line that is refused when so many wait: 6, 4, 7, 8, in this order
  pub data Faulty (waiting : ℕ) (l : Line) : ℕ → Type 0 where
    untimed : must_be_timed d ≡ true → has_time l.when ≡ false → Faulty waiting l 6
    unplayable : (must_be_timed d ≡ true → has_time l.when ≡ true) → (Playable is l.count l.event → ⊥) → Faulty waiting l 4
    late : (must_be_timed d ≡ true → has_time l.when ≡ true) → Playable is l.count l.event → too_late reached l.when ≡ true
        → Faulty waiting l 7
    full : (must_be_timed d ≡ true → has_time l.when ≡ true) → Playable is l.count l.event → too_late reached l.when ≡ false
        → most_lines ≤ waiting → Faulty waiting l 8

-- ---- every call: its number, and the number of the line that it is about

module _ {S : Type 0} (is : List Instrument) (h : History S) where
  abbrev pub ended : Bool
  ended = h.holds.plays.ended

  -- how many lines are taken and not yet used
  abbrev pub waiting : ℕ
  waiting = length h.holds.waits

  module _ (d : Entrance) (handed : List ℕ) where
    abbrev pub fault : ℕ
    fault = (reads d handed).line

    -- what was handed in is these lines, and the piece goes on
    abbrev pub IsRead : List Line → Type 0
    IsRead ls = (ended ≡ false) × ((reads d handed).answer ≡ answer.Taken) × ((reads d handed).lines ≡ ls)

    -- the answers at an entrance
    pub data AtEntrance : ℕ → ℕ → Type 0 where
      -- 9: a cycle call has found the end
      over : ended ≡ true → AtEntrance 9 0
      -- 18: a text of which a line is none, or is one too many
      bad_text : ended ≡ false → (reads d handed).answer ≡ answer.BadText → AtEntrance 18 fault
      -- 1, 2, 3, 5: the first fault met in reading order, at its line; then 11
      cut : ended ≡ false → (reads d handed).answer ≡ answer.CutShort → AtEntrance 1 fault
      not_carried : ended ≡ false → (reads d handed).answer ≡ answer.NotCarried → AtEntrance 2 fault
      out_of_range : ended ≡ false → (reads d handed).answer ≡ answer.OutOfRange → AtEntrance 3 fault
      too_many_values : ended ≡ false → (reads d handed).answer ≡ answer.TooManyValues → AtEntrance 5 fault
      left_over : ended ≡ false → (reads d handed).answer ≡ answer.LeftOver → AtEntrance 11 0
      -- 6, 4, 7, 8: the first line that does not fit, those before it waiting
      faulty : {number : ℕ} (before : List Line) (l : Line) (later : List Line) → IsRead (before ++ (l ∷ later))
          → AllFit is d h.reached waiting before → Faulty is d h.reached (waiting + length before) l number → AtEntrance number (length before)
      -- 0: every line fits
      taken : (ls : List Line) → IsRead ls → AllFit is d h.reached waiting ls → AtEntrance 0 0

  -- how many note messages are taken and have not acted
  abbrev pub waiting_messages : ℕ
  waiting_messages = length h.holds.messages

  -- the answers at the keyboard: 9; the first of 1 and 2 in reading; 8
  pub data AtKeyboard (bytes : List ℕ) : ℕ → ℕ → Type 0 where
    keys_over : ended ≡ true → AtKeyboard bytes 9 0
    keys_cut : ended ≡ false → Parses no_status bytes (midi.fault answer.CutShort) → AtKeyboard bytes 1 0
    keys_not_carried : ended ≡ false → Parses no_status bytes (midi.fault answer.NotCarried) → AtKeyboard bytes 2 0
    keys_full : (ms : List NoteMessage) → ended ≡ false → Parses no_status bytes (midi.whole ms) → most_messages < waiting_messages + length ms → AtKeyboard bytes 8 0
    keys_taken : (ms : List NoteMessage) → ended ≡ false → Parses no_status bytes (midi.whole ms) → waiting_messages + length ms ≤ most_messages → AtKeyboard bytes 0 0

  -- the answers to a cycle call: 10, then 9, and only step 1 ends a piece
  pub data AtCycle (block : List ℤ) : ℕ → ℕ → Type 0 where
    other_length : numbered (cycle block) ≡ false → AtCycle block 10 0
    over_before : numbered (cycle block) ≡ true → ended ≡ true → AtCycle block 9 0
    finds_end : numbered (cycle block) ≡ true → ended ≡ false → ends_by (due_of h.holds) h.holds.plays ≡ true → AtCycle block 9 0
    plays : numbered (cycle block) ≡ true → ended ≡ false → ends_by (due_of h.holds) h.holds.plays ≡ false → AtCycle block 0 0

-- ---- a change and an undo, by the records in use

module _ {S : Type 0} (is : List Instrument) (h : History S) where
  -- 9; 8 for an area of another length; the first fault in the records in use
  pub data NotReached (area : List ℕ) : ℕ → Type 0 where
    set_over : ended is h ≡ true → NotReached area 9
    area_length : ended is h ≡ false → (length area ≡ area_bytes → ⊥) → NotReached area 8
    used_fault : {a : answer-type.Answer} → ended is h ≡ false → length area ≡ area_bytes → settings.ParsesRecords h.set.count area (settings.refused_as a)
        → is_taken a ≡ false → NotReached area (number_of a)

  -- all records in use are valid, and end there
  pub record Stand (area : List ℕ) (size : ℕ) : Type 0 where
    pub goes_on : ended is h ≡ false
    pub whole : length area ≡ area_bytes
    pub last : Setting
    pub valid : settings.ParsesRecords h.set.count area (settings.found last size)

  -- the answers to a change: then the new record's first fault, 11 for bytes left over, 8 without room
  pub data AtChange (area handed : List ℕ) : ℕ → ℕ → Type 0 where
    change_not : {n : ℕ} → NotReached area n → AtChange area handed n 0
    new_fault : {size : ℕ} {a : answer-type.Answer} → Stand area size → settings.Parses handed (settings.refused_as a) → is_taken a ≡ false
        → AtChange area handed (number_of a) 0
    new_left_over : {size own : ℕ} {s : Setting} → Stand area size → settings.Parses handed (settings.found s own) → own < length handed → AtChange area handed 11 0
    new_no_room : {size : ℕ} {s : Setting} → Stand area size → settings.IsRecord handed s → area_bytes < size + length handed → AtChange area handed 8 0
    change_taken : {size : ℕ} {s : Setting} → Stand area size → settings.IsRecord handed s → size + length handed ≤ area_bytes → AtChange area handed 0 0

  -- the answers to an undo: then 21 where one record is in use
  pub data AtUndo (area : List ℕ) : ℕ → ℕ → Type 0 where
    undo_not : {n : ℕ} → NotReached area n → AtUndo area n 0
    undo_nothing : {size : ℕ} → Stand area size → h.set.count < 2 → AtUndo area 21 0
    undo_taken : {size : ℕ} → Stand area size → 2 ≤ h.set.count → AtUndo area 0 0

-- ---- a burst: a unit is answered by what is taken by then

-- more lines are taken
abbrev pub with_lines : {S : Type 0} → History S → List Line → History S
with_lines h ls = record { holds = behind ls h.holds; reached = h.reached; set = h.set }

-- the answers to units, in order: each by the history so far, and its line, where it is taken, waits for the next
pub data InTurn {S : Type 0} (is : List Instrument) : History S → List (List ℕ) → List Answer → Type 0 where
  none : {h : History S} → InTurn is h [] []
  next : {h : History S} {u : List ℕ} {us : List (List ℕ)} {number line : ℕ} {given : List Answer} → AtEntrance is h unit u number line
      → InTurn is (with_lines h (cond (eqb number 0) (reads unit u).lines [])) us given → InTurn is h (u ∷ us) (record { number = number; line = line } ∷ given)

module _ {S : Type 0} (is : List Instrument) (h : History S) where
  -- the answers to a burst: the first of 1 and 5 met; 8; then 0 and one for each unit. It gives no 9 of its own.
  pub data AtBurst (bytes area : List ℕ) : List Answer → Type 0 where
    burst_cut : bursts.Parses most_units bytes (bursts.fault answer.CutShort) → AtBurst bytes area (one 1 0)
    burst_too_long : bursts.Parses most_units bytes (bursts.fault answer.TooManyValues) → AtBurst bytes area (one 5 0)
    burst_no_room : (us : List (List ℕ)) → bursts.Parses most_units bytes (bursts.units us) → length area < length us → AtBurst bytes area (one 8 0)
    burst_taken : (us : List (List ℕ)) (given : List Answer) → bursts.Parses most_units bytes (bursts.units us) → length us ≤ length area → InTurn is h us given
        → AtBurst bytes area (one 0 0 ++ given)

  -- ---- every call

  -- one answer
  pub data Once (P : ℕ → ℕ → Type 0) : List Answer → Type 0 where
    once : {number line : ℕ} → P number line → Once P (one number line)

  abbrev pub Verdict : Call → List Answer → Type 0
  Verdict (submit d handed) = Once (AtEntrance is h d handed)
  Verdict (burst bytes area) = AtBurst bytes area
  Verdict (keyboard bytes) = Once (AtKeyboard is h bytes)
  Verdict (cycle block) = Once (AtCycle is h block)
  Verdict (change area handed) = Once (AtChange is h area handed)
  Verdict (undo area) = Once (AtUndo is h area)
