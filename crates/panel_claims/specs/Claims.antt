-- What is promised of the panel, over its public calls: of a fresh start, of every call on every panel, and of every list of calls on a
-- fresh panel (the tender's conditions 1 and 3 and the cycle of condition 2).
use Rattle.std.specs.Prelude.{◌≡◌, Bool, true, false, not, cond, ◌&&◌, List, [], ◌∷◌, ◌++◌, ℕ, ◌+◌, ◌-◌, ◌≤◌, ◌<◌, ℤ, Float, leb, length, take}
use Rattle.base_answer.specs.Numbers.{number_of}
use Rattle.base_answer.specs.declared.Answer as kind
use Rattle.base_answer.specs.declared.Answer.TheVariants.{Taken, CutShort, TooManyValues}
use Rattle.score_line.specs.declared.Line.{Line}
use Rattle.orchestra_syntax.specs.Tree.{Instrument}
use Rattle.orchestra_tokens.specs.Encoding.{Bytes}
use Rattle.orchestra_reader.specs.Verdict.{Accepted}
use Rattle.voices_source.specs.Alike.{StateAs}
use Rattle.voices_source.specs.Voices.{VoiceState, written_voices, Fits}
use Rattle.voices_source.specs.inside.Translation.{HeldAs}
use Rattle.score_bursts.specs.Bursts.{Burst, units, fault, most_units}
use Rattle.score_bursts.specs.inside.Reading.{burst_of}
use Rattle.score_bursts.specs.Bursts as bursts
use Rattle.player_model.specs.Lists.{All, each, over, Some}
use Rattle.midi_messages.specs.Message.{none as no_status}
use Rattle.midi_messages.specs.Writing.{whole, Parses}
use Rattle.midi_messages.specs.declared.NoteMessage.{NoteMessage}
use Rattle.midi_queue.specs.Keyboard.{messages_in}
use Rattle.midi_queue.specs.declared.MessageQueue.{MessageQueue}
use Rattle.settings_records.specs.Form.{found, IsRecord, ParsesRecords}
use Rattle.settings_records.specs.inside.Reading.{found_in}
use Rattle.settings_records.specs.Changes.{in_use, laid_at, area_bytes}
use Rattle.settings_records.specs.declared.Setting.{Setting}
use Rattle.settings_records.specs.declared.InUse.{InUse}
use Rattle.player_model.specs.PlayerState.{Settings, Counts, due_of, ends_by, block_of}
use Rattle.player_model.specs.Plain.{plain_start}
use Rattle.player_model.specs.Calls.{Entrance, unit, has_time, reads, Call, submit, burst, keyboard, cycle, change, undo, numbered, Answer, one, Buffers, no_buffers, only_block, only_answers, only_settings, buffers_of, After, Player, is_zero, Transition, trace, all_taken, after_all, answers_all}
use Rattle.player_model.specs.Set.{in_force, starting_tempo, settings_by}
use Rattle.player_model.specs.Condition3.{PlainAlike, WithinCeiling}
use Rattle.player_model.specs.History.{Reached, nowhere, at, History, history_of}
use Rattle.player_queue.specs.Admission.{waiting_in}
use Rattle.player_queue.specs.declared.Queue.{Queue}
use Rattle.code_loader_claims.specs.Claims.{StandsFor}
use Rattle.panel.specs.Display.{Display, display_of}
use Rattle.panel.specs.State.{program_of, player_state_of, with_core, with_in_use, with_queue, with_messages, ended_of}
use Rattle.panel.specs.Calls.{fresh_of, area_fresh, submit_of, receive_of, area_after, play_keys_of, change_of, area_changed, undo_of, cycle_of, block_after}
use Rattle.panel.specs.declared.Core.{Core}
use Rattle.panel.specs.declared.Panel.{Panel}
use Rattle.base_answer.specs.declared.Answered.{Answered as AnsweredCall}
use Rattle.panel_claims.specs.Verdict.{Verdict}
use Rattle.panel_claims.specs.Fresh.{Setup, First, checks}

-- ---- the panel as a player

-- the answer to a unit of a burst: the area holds its number, and the unit is its only line
abbrev pub unit_answer : ℕ → Answer
unit_answer n = record { number = n; line = 0 }

-- what a call leaves with one answer, and what a burst leaves, with one for each unit that it tells as answered: the area holds their numbers
abbrev pub with_answer : {P : Type 0} → P → kind.Answer → ℕ → Buffers → After P
with_answer p a line b = record { player = p; answers = one (number_of a) line; buffers = b }

abbrev pub with_answers : {P : Type 0} → P → kind.Answer → ℕ → List ℕ → After P
with_answers p a count area = record { player = p; answers = one (number_of a) 0 ++ each unit_answer (take count area); buffers = only_answers area }

-- what a call leaves of a core that is lent this code and these numbers, by its result and what it was lent (`CoreByContract`). Only a cycle
-- reads the code.
unfoldable pub core_after : List ℕ → List Float → Core → Call → After Core
core_after code vals c (submit d handed) = let r = submit_of c d handed in with_answer r.left r.answer r.line no_buffers
core_after code vals c (burst bytes area) = let r = receive_of c bytes (length area) in with_answers r.left r.answer r.units (area_after c bytes area)
core_after code vals c (keyboard bytes) = let r = play_keys_of c bytes in with_answer r.left r.answer 0 no_buffers
core_after code vals c (cycle b) = let r = cycle_of code vals c (length b) in with_answer r.left r.answer 0 (only_block (block_after code vals c b))
core_after code vals c (change area handed) = let r = change_of c area handed in with_answer r.left r.answer 0 (only_settings (area_changed c area handed))
core_after code vals c (undo area) = let r = undo_of c area in with_answer r.left r.answer 0 (only_settings area)

-- a call on a panel is the call on its core, lent the panel's own code
unfoldable pub after_of : Panel → Call → After Panel
after_of p c =
    let a = core_after p.code p.vals p.core c in
    record { player = with_core p a.player; answers = a.answers; buffers = a.buffers }

-- the position at the start of the last cycle that answered 0
abbrev pub reached_of : Panel → Reached
reached_of p = cond p.core.state.queue.ran (at p.core.state.queue.last) nowhere

-- what it counts, as the display tells it
abbrev pub counts_of : Core → Counts
counts_of c = record { missed = (display_of c).missed }

abbrev pub panel : Player Panel
panel = record { after = after_of; counts = λ (p : Panel). counts_of p.core }

-- ---- a fresh start

-- what its first record sets: one record is in use (`FirstSets`: what its bytes say)
abbrev pub first_in_use : Setup → InUse
first_in_use u = in_use 1 (found_in u.first).setting

-- the panel of an accepted orchestra: nothing waits, nothing plays, no cycle has run, its program stands for the tree, the chosen instrument is
-- there, and its settings are those of the first record
pub record Begun (u : Setup) (p : Panel) : Type 0 where
  pub tree : List Instrument
  pub accepted : Accepted u.orchestra tree
  pub stands : StandsFor tree (program_of p)
  pub there : Some (λ (i : Instrument). i.name ≡ u.chosen) tree
  pub setting : Setting
  pub first : IsRecord u.first setting
  pub set : p.core.settings ≡ in_use 1 setting
  pub choice : p.core.chosen ≡ u.chosen
  pub holds : player_state_of p ≡ plain_start (starting_tempo (in_use 1 setting)) []
  pub reached : reached_of p ≡ nowhere

module _ {P : Type 0} where
  -- what a refusal leaves: its number, and nothing changes
  abbrev pub unchanged : P → Call → ℕ → After P
  unchanged p c number = record { player = p; answers = one number 0; buffers = buffers_of c }

  -- what a burst leaves of a player that has ended: each of its units answers 9
  abbrev pub ended_burst : P → List ℕ → List ℕ → Burst → After P
  ended_burst p bytes area (fault a) = unchanged p (burst bytes area) (number_of a)
  ended_burst p bytes area (units us) =
      let nines = each {B = ℕ} (λ (u : List ℕ). 9) us in
      cond (leb (length us) (length area)) (record { player = p; answers = one 0 0 ++ each unit_answer nines; buffers = only_answers (over nines area) })
      (unchanged p (burst bytes area) 8)

  -- what a call leaves of a player that has ended: 9, or 10 for a block of another length, and nothing changes
  abbrev pub ended_after : P → Call → After P
  ended_after p (submit d b) = unchanged p (submit d b) 9
  ended_after p (burst bytes area) = ended_burst p bytes area (burst_of bytes)
  ended_after p (keyboard b) = unchanged p (keyboard b) 9
  ended_after p (cycle b) = unchanged p (cycle b) (cond (numbered (cycle b)) 9 10)
  ended_after p (change area handed) = unchanged p (change area handed) 9
  ended_after p (undo area) = unchanged p (undo area) 9

  abbrev pub AsEnded : Transition P → Type 0
  AsEnded m = m.after ≡ ended_after m.before m.call

-- what the display tells of a panel that has ended before it began
abbrev pub nothing : Display
nothing = record { missed = 0; lines = 0; messages = 0; notes = 0; ended = true; position = 0 }

-- a fresh start's answer, panel and area
abbrev pub fresh_by : Setup → AnsweredCall Panel
fresh_by u = fresh_of u.orchestra u.area u.first u.chosen

abbrev pub area_by : Setup → List ℕ
area_by u = area_fresh u.orchestra u.area u.first u.chosen

-- For all bytes, areas, first records and choices: the number is that of the first check that fails, and of no other; 0 comes with a begun panel
-- and the first record at the area's start, and every other number with the area as it was and a panel that no list of calls changes: each call
-- is refused, and of a burst each unit.
pub record FreshStart (u : Setup) : Type 1 where
  pub given : First (checks u) (number_of (fresh_by u).answer)
  pub only : (n : ℕ) → First (checks u) n → number_of (fresh_by u).answer ≡ n
  pub begun : (fresh_by u).answer ≡ Taken → Begun u (fresh_by u).left
  pub written : (fresh_by u).answer ≡ Taken → area_by u ≡ laid_at 0 u.first u.area
  pub no_panel : ((fresh_by u).answer ≡ Taken → ⊥) → (cs : List Call) → All AsEnded (trace panel (fresh_by u).left cs)
  pub shown : ((fresh_by u).answer ≡ Taken → ⊥) → display_of (fresh_by u).left.core ≡ nothing
  pub unwritten : ((fresh_by u).answer ≡ Taken → ⊥) → area_by u ≡ u.area

abbrev pub FreshVerdict : Type 1
FreshVerdict = (u : Setup) → Bytes u.orchestra → FreshStart u

-- ---- every call on every panel

-- what an entrance leaves that answers 0: the lines read wait behind the others, and nothing else of the panel changes
pub record Takes (p : Panel) (ls : List Line) (p' : Panel) : Type 0 where
  pub queue : Queue
  pub left : p' ≡ with_queue p queue
  pub waits : waiting_in queue ≡ waiting_in p.core.state.queue ++ ls
  pub ran : queue.ran ≡ p.core.state.queue.ran
  pub last : queue.last ≡ p.core.state.queue.last

unfoldable pub TakenCalls : Type 0
TakenCalls =
    (p : Panel) (d : Entrance) (handed : List ℕ) → length p.core.state.queue.lines ≡ 64 → is_zero (after_of p (submit d handed)).answers ≡ true
    → Takes p (reads d handed).lines (after_of p (submit d handed)).player

-- what the keyboard leaves that answers 0: the note messages wait behind the others, and nothing else of the panel changes
pub record TakesKeys (p : Panel) (ms : List NoteMessage) (p' : Panel) : Type 0 where
  pub messages : MessageQueue
  pub left : p' ≡ with_messages p messages
  pub waits : messages_in messages ≡ messages_in p.core.state.messages ++ ms

unfoldable pub TakenKeys : Type 0
TakenKeys =
    (p : Panel) (bytes : List ℕ) (ms : List NoteMessage) → Parses no_status bytes (whole ms) → is_zero (after_of p (keyboard bytes)).answers ≡ true
    → TakesKeys p ms (after_of p (keyboard bytes)).player

-- what a change or an undo that answers 0 leaves: other settings are in use, and nothing else of the panel changes
abbrev pub settings_set : Panel → InUse → List ℕ → After Panel
settings_set p k area = record { player = with_in_use p k; answers = one 0 0; buffers = only_settings area }

-- a change: what its record says, one record more in use; its bytes stand in the area where those in use end
pub record TakesChange (p : Panel) (area handed : List ℕ) : Type 0 where
  pub setting : Setting
  pub new : IsRecord handed setting
  pub last : Setting
  pub size : ℕ
  pub valid : ParsesRecords p.core.settings.count area (found last size)
  pub left : after_of p (change area handed) ≡ settings_set p (in_use (p.core.settings.count + 1) setting) (laid_at size handed area)

-- an undo: what the last record says that is then in use, one record fewer; the bytes stay
pub record TakesUndo (p : Panel) (area : List ℕ) : Type 0 where
  pub setting : Setting
  pub size : ℕ
  pub valid : ParsesRecords (p.core.settings.count - 1) area (found setting size)
  pub left : after_of p (undo area) ≡ settings_set p (in_use (p.core.settings.count - 1) setting) area

unfoldable pub TakenSettings : Type 0
TakenSettings =
    (p : Panel) (area : List ℕ) → ((handed : List ℕ) → is_zero (after_of p (change area handed)).answers ≡ true → TakesChange p area handed)
    × (is_zero (after_of p (undo area)).answers ≡ true → TakesUndo p area)

-- a cycle call that finds the end
abbrev pub finds_end : Panel → Call → Bool
finds_end p (submit d handed) = false
finds_end p (burst bytes area) = false
finds_end p (keyboard bytes) = false
finds_end p (change area handed) = false
finds_end p (undo area) = false
finds_end p (cycle b) = numbered (cycle b) && not p.core.state.playing.ended && ends_by (due_of (player_state_of p)) (player_state_of p).plays

-- Condition 1: "A refusal leaves the panel and all lent memory unchanged", save that the cycle call that finds the end marks it.
pub record Refused (p : Panel) (c : Call) : Type 0 where
  pub player : (after_of p c).player ≡ cond (finds_end p c) (ended_of p) p
  pub buffers : (after_of p c).buffers ≡ buffers_of c

unfoldable pub RefusalsChangeNothing : Type 0
RefusalsChangeNothing = (p : Panel) (c : Call) → is_zero (after_of p c).answers ≡ false → Refused p c

-- what units leave that come singly, by the public unit call, in order, with their numbers in the first places of the area; 0 is the burst's own
abbrev pub as_units : Panel → List ℕ → List (List ℕ) → After Panel
as_units p area us =
    let cs = each (submit unit) us in
    let given = answers_all panel p cs in
    record { player = after_all panel p cs; answers = one 0 0 ++ given; buffers = only_answers (over (each (λ (a : Answer). a.number) given) area) }

-- Document 02: "Answers and panel are as if the units came singly, in order, refused or not"; a burst that is cut, too long or without a
-- place for each answer takes and writes nothing. Its bytes say exactly one of these (`EveryBurst`, `OneMeaning`).
pub record BurstCall (p : Panel) (bytes area : List ℕ) : Type 0 where
  pub cut : bursts.Parses most_units bytes (fault CutShort) → after_of p (burst bytes area) ≡ unchanged p (burst bytes area) 1
  pub too_long : bursts.Parses most_units bytes (fault TooManyValues) → after_of p (burst bytes area) ≡ unchanged p (burst bytes area) 5
  pub no_room : (us : List (List ℕ)) → bursts.Parses most_units bytes (units us) → length area < length us → after_of p (burst bytes area) ≡ unchanged p (burst bytes area) 8
  pub taken : (us : List (List ℕ)) → bursts.Parses most_units bytes (units us) → length us ≤ length area → after_of p (burst bytes area) ≡ as_units p area us

unfoldable pub BurstAsUnits : Type 0
BurstAsUnits = (p : Panel) (bytes area : List ℕ) → BurstCall p bytes area

-- the number of answered units that a burst tells (`Contracts`: the `units` of its result)
abbrev pub answered_units : Core → List ℕ → List ℕ → ℕ
answered_units c bytes area = (receive_of c bytes (length area)).units

-- as many as it has, and none at a refusal
pub record UnitsTold (c : Core) (bytes area : List ℕ) : Type 0 where
  pub cut : bursts.Parses most_units bytes (fault CutShort) → answered_units c bytes area ≡ 0
  pub too_long : bursts.Parses most_units bytes (fault TooManyValues) → answered_units c bytes area ≡ 0
  pub no_room : (us : List (List ℕ)) → bursts.Parses most_units bytes (units us) → length area < length us → answered_units c bytes area ≡ 0
  pub taken : (us : List (List ℕ)) → bursts.Parses most_units bytes (units us) → length us ≤ length area → answered_units c bytes area ≡ length us

unfoldable pub AnsweredUnits : Type 0
AnsweredUnits = (c : Core) (bytes area : List ℕ) → UnitsTold c bytes area

-- ---- (M-108) one door for single lines: a unit, a keypad line, a burst, a stick or a text

-- a call that reads alone as this line; of a burst, with a place for its answer, the one unit does
abbrev pub ReadsAlone : Call → Line → Type 0
ReadsAlone (submit d handed) l = ((reads d handed).answer ≡ Taken) × ((reads d handed).lines ≡ l ∷ [])
ReadsAlone (burst bytes area) l =
    (u : List ℕ) × bursts.Parses most_units bytes (units (u ∷ [])) × (1 ≤ length area) × ((reads unit u).answer ≡ Taken) × ((reads unit u).lines ≡ l ∷ [])
ReadsAlone (keyboard bytes) l = ⊥
ReadsAlone (cycle b) l = ⊥
ReadsAlone (change area handed) l = ⊥
ReadsAlone (undo area) l = ⊥

-- the line's answer is the last one: before it a burst has its own
abbrev pub last_answer : List Answer → Answer
last_answer [] = record { number = 0; line = 0 }
last_answer (a ∷ []) = a
last_answer (a ∷ b ∷ given) = last_answer (b ∷ given)

pub record Alike (p : Panel) (c d : Call) : Type 0 where
  pub told : last_answer (after_of p c).answers ≡ last_answer (after_of p d).answers
  pub left : (after_of p c).player ≡ (after_of p d).player

-- On one panel, a timed line that any two of them read alone as the same line gets the same answer and leaves the same panel through both.
unfoldable pub EntrancesAlike : Type 0
EntrancesAlike = (p : Panel) (c d : Call) (l : Line) → has_time l.when ≡ true → ReadsAlone c l → ReadsAlone d l → Alike p c d

-- ---- every list of calls on a fresh panel

-- an accepted orchestra, as this tree, an area of 4,096 bytes, a valid first record and nothing behind it, and a chosen instrument that is there
pub record Given (u : Setup) (is : List Instrument) : Type 0 where
  pub accepted : Accepted u.orchestra is
  pub whole : length u.area ≡ area_bytes
  pub set : Setting
  pub first : IsRecord u.first set
  pub there : Some (λ (i : Instrument). i.name ≡ u.chosen) is

abbrev pub fresh : Setup → Panel
fresh u = (fresh_by u).left

-- the first record says what its bytes say
abbrev pub FirstSets : Type 0
FirstSets = (u : Setup) (is : List Instrument) (g : Given u is) → first_in_use u ≡ in_use 1 g.set

-- the settings of each cycle, by the calls
abbrev pub settings : {P : Type 0} → Setup → List (Transition P) → ℕ → Settings
settings u ms = settings_by u.chosen (first_in_use u) ms

-- what the display tells by a history: the notes missed, how many lines and note messages were taken and wait, how many notes sound, whether the
-- piece has ended, and the position
abbrev pub display_by : {S : Type 0} → History S → Display
display_by h =
    let plays = h.holds.plays in
    record {
      missed = plays.counts.missed;
      lines = length h.holds.waits;
      messages = length h.holds.messages;
      notes = length plays.notes;
      ended = plays.ended;
      position = plays.position;
    }

module _ (u : Setup) (is : List Instrument) where
  -- what a list of calls leaves by its history, the notes being those of the orchestra as it is written, and the panel after it
  abbrev pub past : List Call → History VoiceState
  past cs = history_of (written_voices is) u.chosen (first_in_use u) (trace panel (fresh u) cs)

  abbrev pub panel_after : List Call → Panel
  panel_after cs = after_all panel (fresh u) cs

  -- Condition 2, every cycle of sound: whatever was handed in, timed or not, late or not, the panel holds what its history says, each note
  -- the values of its names, its settings are those of its history, and so is every number that the display tells,
  pub record StateByPast (cs : List Call) : Type 0 where
    pub holds : StateAs (HeldAs is) (player_state_of (panel_after cs)) (past cs).holds
    pub reached : reached_of (panel_after cs) ≡ (past cs).reached
    pub set : (panel_after cs).core.settings ≡ (past cs).set
    pub told : display_of (panel_after cs).core ≡ display_by (past cs)

  -- and a cycle call that answers 0 leaves the block of document 01's cycle.
  abbrev pub BlockByPast : List Call → List ℤ → Type 0
  BlockByPast cs lent =
      is_zero (after_of (panel_after cs) (cycle lent)).answers ≡ true
      → (after_of (panel_after cs) (cycle lent)).buffers.block
      ≡ block_of (written_voices is) (in_force u.chosen (past cs).set) (due_of (past cs).holds) (past cs).holds.plays

  -- Each call gives the answers that its history gives, and is given them exactly then.
  pub record Answered (cs : List Call) (c : Call) : Type 0 where
    pub answers : List Answer
    pub told : (after_of (panel_after cs) c).answers ≡ answers
    pub given : Verdict is (past cs) c answers

  abbrev pub VerdictGiven : List Call → Call → Type 0
  VerdictGiven cs c = (answers : List Answer) → Verdict is (past cs) c answers → (after_of (panel_after cs) c).answers ≡ answers

unfoldable pub CycleByTree : Type 0
CycleByTree =
    (u : Setup) (is : List Instrument) → Given u is → (cs : List Call) →
    StateByPast u is cs × ((lent : List ℤ) → BlockByPast u is cs lent)

unfoldable pub CallVerdict : Type 0
CallVerdict =
    (u : Setup) (is : List Instrument) → Given u is → (cs : List Call) (c : Call) →
    Answered u is cs c × VerdictGiven u is cs c

-- Each line taken has no more values than its instrument has fields, and a control line's symbol has 16 bits.
unfoldable pub LinesFit : Type 0
LinesFit =
    (u : Setup) (is : List Instrument) → Given u is → (cs : List Call) →
    All (λ (l : Line). Fits is l l.event) (all_taken (trace panel (fresh u) cs))

-- Condition 3, first half, which excludes the keyboard, and second half, which binds it: the plain player's notes are those of the orchestra as it is written, their values by symbol.
unfoldable pub Condition3 : Type 0
Condition3 =
    (u : Setup) (is : List Instrument) → Given u is →
    PlainAlike panel (written_voices is) u.chosen (first_in_use u) (fresh u)

unfoldable pub CeilingBinds : Type 0
CeilingBinds =
    (u : Setup) (is : List Instrument) → Given u is → (cs : List Call) →
    let ms = trace panel (fresh u) cs in All (WithinCeiling (settings u ms)) ms
