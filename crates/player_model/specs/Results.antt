-- What document 01 says of a cycle's steps as results. The definitions of a cycle go step by step; these statements say what comes of
-- it, in other words, and a step that comes to something else keeps none of them.
use Rattle.std.specs.Prelude.{◌≡◌, ◌↔◌, ◌⊎◌, Bool, true, false, not, ◌&&◌, cond, ℕ, zero, suc, ◌+◌, ◌-◌, ◌≤◌, ◌<◌, min, length, take, drop, replicate, eqb, Float, Option, Some, None}
use Rattle.std.specs.Option.{option_map_or}
use mathlib.Core.List.{List, [], ◌∷◌, ◌++◌, zip_with}
use Rattle.std.specs.Float.{binary32}
use Rattle.std.specs.Float.Ieee.{lt, eq, is_nan, add, of_bits}
use Rattle.base_timebase.specs.Time.{ticks_in, endless as without_end}
use Rattle.score_line.specs.declared.When.{When}
use Rattle.score_line.specs.declared.When.TheVariants.{Timed, Untimed}
use Rattle.score_line.specs.declared.Label.{Label}
use Rattle.score_line.specs.declared.Event.{Event}
use Rattle.score_line.specs.declared.Event.TheVariants.{Instr, Control, End, Tempo}
use Rattle.score_line.specs.declared.Line.{Line}
use Rattle.player_model.specs.Lists.{filter, fold, each, All}
use Rattle.midi_messages.specs.declared.NoteMessage.{NoteMessage}
use Rattle.player_model.specs.Cycle.{Voices, Note, Started, with_state, release, release_oldest, joined_by, ordered, any_end, last_tempo, samples, born, started, controlled, pressed, after_messages, run_all, goes_on}
use Rattle.player_model.specs.Lists as lists

-- ---- the due lines, in order

-- each element once: the elements of one list put one after another into the other, each at some place
pub data Rearranged {A : Type 0} : List A → List A → Type 0 where
  none : Rearranged [] []
  more : {xs : List A} (x : A) (ys zs : List A) → Rearranged xs (ys ++ zs) → Rearranged (xs ++ (x ∷ [])) (ys ++ (x ∷ zs))

-- by exact time, untimed ones last: no line stands before one of an earlier time, and no untimed line before a timed one
abbrev pub MayPrecede : When → When → Type 0
MayPrecede (Timed a t) (Timed b u) = lt u t ≡ false
MayPrecede (Timed a t) Untimed = Unit {0}
MayPrecede Untimed (Timed b u) = ⊥
MayPrecede Untimed Untimed = Unit {0}

abbrev pub InOrder : List Line → Type 0
InOrder [] = Unit {0}
InOrder (l ∷ ls) = All (λ (m : Line). MayPrecede l.when m.when) ls × InOrder ls

-- equal times; both untimed
abbrev pub same_time : When → When → Bool
same_time (Timed a t) (Timed b u) = eq t u
same_time (Timed a t) Untimed = false
same_time Untimed (Timed b u) = false
same_time Untimed Untimed = true

abbrev pub at_time : When → List Line → List Line
at_time w ls = filter (λ (l : Line). same_time w l.when) ls

-- lines in the order in which they go
pub record Goes (arrived out : List Line) : Type 0 where
  pub once : Rearranged arrived out
  pub by_time : InOrder out
  -- those of one time, and the untimed ones, by arrival
  pub by_arrival : (w : When) → at_time w out ≡ at_time w arrived

unfoldable pub DueOrder : Type 0
DueOrder = (arrived : List Line) → Goes arrived (ordered arrived)

abbrev pub is_number : When → Type 0
is_number (Timed late t) = is_nan t ≡ false
is_number Untimed = Unit {0}

-- and no other list goes so, where every time is a number, as every time that is read is
unfoldable pub OneOrder : Type 0
OneOrder =
    (arrived a b : List Line) → All (λ (l : Line). is_number l.when) arrived → Goes arrived a → Goes arrived b → a ≡ b

-- ---- steps 1 and 2

unfoldable pub EndFound : Type 0
EndFound = (due : List Line) → (any_end due ≡ true) ↔ lists.Some (λ (l : Line). l.event ≡ End) due

abbrev pub NoTempo : Event → Type 0
NoTempo (Instr label i d) = Unit {0}
NoTempo (Control label x value) = Unit {0}
NoTempo End = Unit {0}
NoTempo (Tempo t) = ⊥

-- the last tempo line in order sets the tempo; where there is none it stays
pub record LastSets : Type 0 where
  pub last : (tempo t : Float) (before : List Line) (l : Line) (behind : List Line) → l.event ≡ Tempo t
      → All (λ (m : Line). NoTempo m.event) behind → last_tempo tempo (before ++ (l ∷ behind)) ≡ t
  pub none : (tempo : Float) (due : List Line) → All (λ (m : Line). NoTempo m.event) due → last_tempo tempo due ≡ tempo

-- ---- steps 3, 4 and 7, a note at a time

-- an end that is at most a position
abbrev pub HasEnded : ℕ → Option ℕ → Type 0
HasEnded position None = ⊥
HasEnded position (Some end) = end ≤ position

module _ {S : Type 0} (v : Voices S) where
  abbrev pub born_by : ℕ → Line → Event → List (Note S)
  born_by position l (Instr label i d) = born v position l label i d ∷ []
  born_by position l (Control label x value) = []
  born_by position l End = []
  born_by position l (Tempo t) = []

  -- the notes of the instr lines, in order
  unfoldable pub births : ℕ → List Line → List (Note S)
  births position [] = []
  births position (l ∷ ls) = born_by position l l.event ++ births position ls

  abbrev pub HasPriority : Note S → Type 0
  HasPriority n = n.priority ≡ true

  abbrev pub NoPriority : Note S → Type 0
  NoPriority n = n.priority ≡ false

  -- What one more note makes of those that sound. With room it joins behind them. Without room one more is missed: where it has priority,
  -- the oldest without is gone, the others keep their places and the new one is the youngest; otherwise the notes stay.
  pub record Joins (most : ℕ) (s : Started S) (n : Note S) : Type 0 where
    pub room : length s.notes < most → joined_by most s n ≡ record { notes = s.notes ++ (n ∷ []); missed = s.missed }
    pub cut_off : (before : List (Note S)) (oldest : Note S) (behind : List (Note S)) → most ≤ length s.notes → HasPriority n
        → s.notes ≡ before ++ (oldest ∷ behind) → All HasPriority before → NoPriority oldest
        → joined_by most s n ≡ record { notes = (before ++ behind) ++ (n ∷ []); missed = s.missed + 1 }
    pub missed : most ≤ length s.notes → NoPriority n ⊎ All HasPriority s.notes
        → joined_by most s n ≡ record { notes = s.notes; missed = s.missed + 1 }

  unfoldable pub NotesJoin : Type 0
  NotesJoin = (most : ℕ) (s : Started S) (n : Note S) → Joins most s n

  -- A note has priority exactly if its line had, whatever it holds since; keyboard notes have none, marked or not.
  pub record PriorityKept : Type 0 where
    pub line : (position : ℕ) (l : Line) (label : Label) (i : ℕ) (duration : Float) → (born v position l label i duration).priority ≡ l.priority
    pub key : (chosen : ℕ) (m : NoteMessage) → (pressed v chosen m).priority ≡ false
    pub stays : (n : Note S) (s : S) → (with_state n s).priority ≡ n.priority
    pub marked : (n : Note S) → (release n).priority ≡ n.priority

  -- so many of the oldest notes without priority left out
  unfoldable pub cut_first : ℕ → List (Note S) → List (Note S)
  cut_first zero ns = ns
  cut_first (suc k) [] = []
  cut_first (suc k) (n ∷ ns) = cond n.priority (n ∷ cut_first (suc k) ns) (cut_first k ns)

  -- the notes once every place is taken, and the notes of priority that come then
  abbrev pub filled : ℕ → List (Note S) → List (Note S) → List (Note S)
  filled most before born = before ++ take (most - length before) born

  abbrev pub come_then : ℕ → List (Note S) → List (Note S) → List (Note S)
  come_then most before born = filter (λ (n : Note S). n.priority) (drop (most - length before) born)

  -- each of these for one without priority, as long as there is one
  abbrev pub replaced : List (Note S) → List (Note S) → List (Note S)
  replaced sounding new = cut_first (length new) sounding ++ take (length (filter (λ (n : Note S). not n.priority) sounding)) new

  -- Each instr line starts a note behind the others as long as fewer than the most sound. Each further one adds one to the missed notes,
  -- and those of priority still start, each for the oldest note without, as long as there is one.
  pub record EachStarts (most position : ℕ) (before : List (Note S)) (due : List Line) : Type 0 where
    pub notes : (started v most position before due).notes
        ≡ replaced (filled most before (births position due)) (come_then most before (births position due))
    pub missed : (started v most position before due).missed ≡ length (births position due) - (most - length before)

  unfoldable pub NotesStart : Type 0
  NotesStart = (most position : ℕ) (before : List (Note S)) (due : List Line) → EachStarts most position before due

  -- what a line makes of what a note with a label holds: a control line with that label sets, any other line leaves it
  abbrev pub controlled_state : Option ℕ → S → Event → S
  controlled_state own s (Instr label i d) = s
  controlled_state own s (Control label x value) = cond (option_map_or (eqb label) own false) (v.control x value s) s
  controlled_state own s End = s
  controlled_state own s (Tempo t) = s

  abbrev pub controlled_all : List Line → Note S → Note S
  controlled_all due n =
      with_state n (fold (λ (s : S) (l : Line). controlled_state n.label s l.event) n.state due)

  -- Each control line in order sets the named imports ksig in every note with that label, and no other note and nothing else.
  unfoldable pub ControlsSet : Type 0
  ControlsSet =
      (notes : List (Note S)) (due : List Line) → controlled v notes due ≡ each (controlled_all due) notes

  -- A note that a line started, whatever it holds since, is removed at a position exactly when it has an end, and the position of its
  -- birth plus the ticks of its duration is at most that position.
  unfoldable pub NotesEnd : Type 0
  NotesEnd =
      (birth position : ℕ) (l : Line) (label : Label) (i : ℕ) (duration : Float) (s : S)
      → (goes_on position (with_state (born v birth l label i duration) s) ≡ false)
      ↔ ((eq duration without_end ≡ false) × (birth + ticks_in duration ≤ position))

  -- ---- the note messages, after step 4

  -- an unmarked note of a key of a channel
  pub record Held (channel key : ℕ) (n : Note S) : Type 0 where
    pub from_key : n.key ≡ Some (channel, key)
    pub unmarked : n.released ≡ false

  -- A note-off marks the oldest such note, and no other note changes; where there is none no note does.
  pub record OldestMarked (channel key : ℕ) : Type 0 where
    pub oldest : (before : List (Note S)) (n : Note S) (behind : List (Note S)) → All (λ (m : Note S). Held channel key m → ⊥) before
        → Held channel key n → release_oldest channel key (before ++ (n ∷ behind)) ≡ before ++ (release n ∷ behind)
    pub none : (notes : List (Note S)) → All (λ (m : Note S). Held channel key m → ⊥) notes → release_oldest channel key notes ≡ notes

  unfoldable pub KeysRelease : Type 0
  KeysRelease = (channel key : ℕ) → OldestMarked channel key

  -- A note is removed at a position exactly when it is marked, or has an end that is at most the position.
  unfoldable pub NotesGo : Type 0
  NotesGo =
      (position : ℕ) (n : Note S) → (goes_on position n ≡ false) ↔ ((n.released ≡ true) ⊎ HasEnded position n.end)

  -- how many of the messages are note-ons
  unfoldable pub note_ons : List NoteMessage → ℕ
  note_ons [] = 0
  note_ons (m ∷ ms) = cond m.on (suc (note_ons ms)) (note_ons ms)

  -- Each note-on starts a note as long as fewer than the most sound; the others are missed. A marked note still sounds.
  pub record KeysPlay (most chosen : ℕ) (s : Started S) (ms : List NoteMessage) : Type 0 where
    pub notes : length (after_messages v most chosen s ms).notes ≡ length s.notes + min (note_ons ms) (most - length s.notes)
    pub missed : (after_messages v most chosen s ms).missed ≡ s.missed + (note_ons ms - (most - length s.notes))

  unfoldable pub MessagesPlay : Type 0
  MessagesPlay = (most chosen : ℕ) (s : Started S) (ms : List NoteMessage) → KeysPlay most chosen s ms

  -- The messages act in order: each on the notes as those before it left them. Note-ons alone start a note each, in order, behind those that
  -- sound, as many as there is room for.
  pub record InMessageOrder (most chosen : ℕ) (s : Started S) (ms : List NoteMessage) : Type 0 where
    pub none : after_messages v most chosen s [] ≡ s
    pub on : (m : NoteMessage) → m.on ≡ true
        → after_messages v most chosen s (ms ++ (m ∷ [])) ≡ joined_by most (after_messages v most chosen s ms) (pressed v chosen m)
    pub off : (m : NoteMessage) → m.on ≡ false → after_messages v most chosen s (ms ++ (m ∷ []))
        ≡ record {
          notes = release_oldest m.channel m.key (after_messages v most chosen s ms).notes;
          missed = (after_messages v most chosen s ms).missed;
        }
    pub ons_alone : All (λ (m : NoteMessage). m.on ≡ true) ms → (after_messages v most chosen s ms).notes
        ≡ s.notes ++ take (most - length s.notes) (each (pressed v chosen) ms)

  unfoldable pub MessagesInOrder : Type 0
  MessagesInOrder = (most chosen : ℕ) (s : Started S) (ms : List NoteMessage) → InMessageOrder most chosen s ms

-- ---- step 5

-- outputs added to a sample one after the other
abbrev pub with_outputs : Float → List Float → Float
with_outputs sample xs = fold (add binary32) sample xs

module _ {S : Type 0} (v : Voices S) (next : ℕ → S → S) (outputs : ℕ → S → List (List Float)) where
  -- Voices that only add: in a run of so many samples, what a note holds afterwards and what it outputs in each sample, in statement
  -- order, are its own affair, and its outputs are added to what is there.
  pub record Adding : Type 0 where
    pub every : (n : ℕ) (s : S) → length (outputs n s) ≡ n
    pub state : (s : S) (mix : List Float) → (v.run s mix).state ≡ next (length mix) s
    pub mix : (s : S) (mix : List Float) → (v.run s mix).mix ≡ zip_with with_outputs mix (outputs (length mix) s)

  -- the outputs of all notes in each of n samples, in note order
  unfoldable pub outputs_of_notes : ℕ → List (Note S) → List (List Float)
  outputs_of_notes n [] = replicate n []
  outputs_of_notes n (x ∷ xs) = zip_with (λ (first rest : List Float). first ++ rest) (outputs n x.state) (outputs_of_notes n xs)

  -- Each sample starts at +0, and each output adds its value, in note order, then statement order.
  pub record OutputsAdd (before : List (Note S)) : Type 0 where
    pub mix : (run_all v before).mix ≡ each (with_outputs (of_bits binary32 0)) (outputs_of_notes samples before)
    pub notes : (run_all v before).notes ≡ each (λ (n : Note S). with_state n (next samples n.state)) before

  unfoldable pub SamplesSum : Type 0
  SamplesSum = Adding → (before : List (Note S)) → OutputsAdd before
