-- Document 01, "One cycle, in order", over lists. What the notes do is a parameter, the voices, so that the panel and the plain
-- player share this one definition.
use Rattle.std.specs.Prelude.{Bool, true, false, not, ◌&&◌, ◌||◌, cond, List, [], ◌∷◌, ◌++◌, ℕ, ◌+◌, ℤ, length, replicate, take, ltb, leb, eqb, Float, Option, Some, None}
use Rattle.std.specs.Option.{option_map_or}
use Rattle.std.specs.Float.{binary32}
use Rattle.std.specs.Float.Ieee.{lt, eq, of_bits}
use Rattle.base_timebase.specs.Time.{ticks_in, endless as without_end}
use Rattle.base_float32.specs.Limit.{sample_of}
use Rattle.score_line.specs.declared.When.{When}
use Rattle.score_line.specs.declared.When.TheVariants.{Timed, Untimed}
use Rattle.score_line.specs.declared.Label.{Label}
use Rattle.score_line.specs.declared.Label.TheVariants.{Unlabelled, Labelled}
use Rattle.score_line.specs.declared.Event.{Event}
use Rattle.score_line.specs.declared.Event.TheVariants.{Instr, Control, End, Tempo}
use Rattle.score_line.specs.declared.Line.{Line}
use Rattle.midi_keys.specs.Keys.{frequency_of, normalized_velocity}
use Rattle.midi_messages.specs.declared.NoteMessage.{NoteMessage}
use Rattle.player_model.specs.Lists.{fold, each}

-- ---- the voices

-- what a note's run leaves: what the note holds, and the summed samples with its outputs added
pub record Ran (S : Type 0) : Type 0 where
  pub state : S
  pub mix : List Float

-- What the orchestra makes of a note. S is what a note holds: its instrument and a float for each name.
pub record Voices (S : Type 0) : Type 0 where
  -- a new note of the instrument with this name, given these values: its i statements have run
  pub birth : ℕ → List Float → S
  -- the imports ksig with this name set to a value, where the instrument has it
  pub control : ℕ → Float → S → S
  -- one cycle: the k statements once, the a statements for each sample, whose outputs are added to it in statement order
  pub run : S → List Float → Ran S

-- a note that sounds
pub record Note (S : Type 0) : Type 0 where
  -- its label, if it has one
  pub label : Option ℕ
  -- where it ends, if it does: the position of its birth plus the ticks of its duration
  pub end : Option ℕ
  -- whether its line had priority
  pub priority : Bool
  -- the channel and key that it is from, if it is from the keyboard; whether that key was released
  pub key : Option (ℕ × ℕ)
  pub released : Bool
  pub state : S

-- ---- due lines

abbrev pub due_when : ℕ → When → Bool
due_when pos (Timed late t) = leb (ticks_in t) pos
due_when pos Untimed = true

-- A line is due when its ticks are at most the position; an untimed line is due in the next cycle.
unfoldable pub is_due : ℕ → Line → Bool
is_due pos l = due_when pos l.when

-- by exact time; a timed line comes before an untimed one
abbrev pub earlier : When → When → Bool
earlier (Timed a t) (Timed b u) = lt t u
earlier (Timed a t) Untimed = true
earlier Untimed w = false

-- a line put behind all those that are not later than it
unfoldable pub insert : Line → List Line → List Line
insert x [] = x ∷ []
insert x (y ∷ ys) = cond (earlier x.when y.when) (x ∷ y ∷ ys) (y ∷ insert x ys)

-- lines by exact time, equal times by arrival, untimed ones last by arrival
unfoldable pub ordered : List Line → List Line
ordered xs = fold (λ (before : List Line) (x : Line). insert x before) [] xs

-- ---- step 1

-- the limit on position
abbrev pub position_limit : ℕ
position_limit = 1000000000000

abbrev pub is_end : Event → Bool
is_end (Instr label i d) = false
is_end (Control label x value) = false
is_end End = true
is_end (Tempo t) = false

unfoldable pub any_end : List Line → Bool
any_end ls = fold (λ (found : Bool) (l : Line). found || is_end l.event) false ls

-- ---- step 2

abbrev pub tempo_from : Float → Event → Float
tempo_from old (Instr label i d) = old
tempo_from old (Control label x value) = old
tempo_from old End = old
tempo_from old (Tempo t) = t

-- the last tempo line in order sets the tempo
unfoldable pub last_tempo : Float → List Line → Float
last_tempo t ls = fold (λ (old : Float) (l : Line). tempo_from old l.event) t ls

-- ---- steps 3 to 7, with the voices

-- the notes, and how many were missed in this cycle
pub record Started (S : Type 0) : Type 0 where
  pub notes : List (Note S)
  pub missed : ℕ

-- the notes after their run, and the summed samples
pub record Rendered (S : Type 0) : Type 0 where
  pub notes : List (Note S)
  pub mix : List Float

-- samples a cycle
abbrev pub samples : ℕ
samples = 320

abbrev pub label_number : Label → Option ℕ
label_number Unlabelled = None
label_number (Labelled n) = Some n

-- step 6: every summed sample limited by the ceiling
unfoldable pub limited : ℕ → List Float → List ℤ
limited ceiling mix = each (λ (x : Float). sample_of x ceiling) mix

module _ {S : Type 0} where
  abbrev pub with_state : Note S → S → Note S
  with_state n s =
      record {
        label = n.label;
        end = n.end;
        priority = n.priority;
        key = n.key;
        released = n.released;
        state = s;
      }

  -- marked for removal
  abbrev pub release : Note S → Note S
  release n =
      record {
        label = n.label;
        end = n.end;
        priority = n.priority;
        key = n.key;
        released = true;
        state = n.state;
      }

  -- whether a note can be cut off: one of them has no priority
  unfoldable pub can_cut : List (Note S) → Bool
  can_cut [] = false
  can_cut (n ∷ ns) = cond n.priority (can_cut ns) true

  -- the oldest note without priority cut off; the others stay
  unfoldable pub cut_oldest : List (Note S) → List (Note S)
  cut_oldest [] = []
  cut_oldest (n ∷ ns) = cond n.priority (n ∷ cut_oldest ns) ns

  -- One note more, behind the others. With the most notes sounding one is missed: where the new note has priority, the oldest without,
  -- which is cut off; with no such note, and for a note without priority, the new one.
  unfoldable pub joined_by : ℕ → Started S → Note S → Started S
  joined_by most s n =
      cond (ltb (length s.notes) most)
      (record { notes = s.notes ++ (n ∷ []); missed = s.missed })
      (cond (n.priority && can_cut s.notes)
      (record { notes = cut_oldest s.notes ++ (n ∷ []); missed = s.missed + 1 })
      (record { notes = s.notes; missed = s.missed + 1 }))

  -- a note that goes on after a cycle at a position: it is not marked, and its end lies above the position
  unfoldable pub goes_on : ℕ → Note S → Bool
  goes_on pos n = not n.released && option_map_or (ltb pos) n.end true

  -- an unmarked note of a key of a channel
  unfoldable pub is_held : ℕ → ℕ → Note S → Bool
  is_held channel key n = option_map_or (λ (k : ℕ × ℕ). eqb k.0 channel && eqb k.1 key) n.key false && not n.released

  -- the oldest unmarked note of a key of a channel marked; the others stay
  unfoldable pub release_oldest : ℕ → ℕ → List (Note S) → List (Note S)
  release_oldest channel key [] = []
  release_oldest channel key (n ∷ ns) = cond (is_held channel key n) (release n ∷ ns) (n ∷ release_oldest channel key ns)

module _ {S : Type 0} (v : Voices S) where
  -- the note that an instr line starts; its values are the first of the fields, a duration of -1 is without end
  unfoldable pub born : ℕ → Line → Label → ℕ → Float → Note S
  born pos l label instrument duration =
      record {
        label = label_number label;
        end = cond (eq duration without_end) None (Some (pos + ticks_in duration));
        priority = l.priority;
        key = None;
        released = false;
        state = v.birth instrument (take l.count l.values);
      }

  abbrev pub started_by : ℕ → ℕ → Line → Started S → Event → Started S
  started_by most pos l s (Instr label i d) = joined_by most s (born pos l label i d)
  started_by most pos l s (Control label x value) = s
  started_by most pos l s End = s
  started_by most pos l s (Tempo t) = s

  -- step 3: each instr line starts a note, as long as fewer than the most sound or one can be cut off for it
  unfoldable pub started : ℕ → ℕ → List (Note S) → List Line → Started S
  started most pos ns ls =
      fold (λ (s : Started S) (l : Line). started_by most pos l s l.event) (record { notes = ns; missed = 0 }) ls

  -- a control line's effect on one note: on a note with that label, and on no other
  unfoldable pub controlled_by : ℕ → ℕ → Float → Note S → Note S
  controlled_by label x value n =
      cond (option_map_or (eqb label) n.label false) (with_state n (v.control x value n.state)) n

  abbrev pub control_event : List (Note S) → Event → List (Note S)
  control_event ns (Instr label i d) = ns
  control_event ns (Control label x value) = each (controlled_by label x value) ns
  control_event ns End = ns
  control_event ns (Tempo t) = ns

  -- step 4: each control line in order
  unfoldable pub controlled : List (Note S) → List Line → List (Note S)
  controlled ns ls = fold (λ (ms : List (Note S)) (l : Line). control_event ms l.event) ns ls

  -- the note that a note-on starts, of the chosen instrument, without label and end
  unfoldable pub pressed : ℕ → NoteMessage → Note S
  pressed chosen m =
      record {
        label = None;
        end = None;
        priority = false;
        key = Some (m.channel, m.key);
        released = false;
        state = v.birth chosen (frequency_of m.key ∷ normalized_velocity m.velocity ∷ []);
      }

  -- a note-on starts a note, as an instr line without priority does; a note-off marks one
  unfoldable pub after_message : ℕ → ℕ → Started S → NoteMessage → Started S
  after_message most chosen s m =
      cond m.on (joined_by most s (pressed chosen m))
      (record { notes = release_oldest m.channel m.key s.notes; missed = s.missed })

  -- after step 4: each note message in order
  unfoldable pub after_messages : ℕ → ℕ → Started S → List NoteMessage → Started S
  after_messages most chosen s ms = fold (after_message most chosen) s ms

  -- step 5: notes run, oldest first, each adding its outputs to the samples
  unfoldable pub run_from : List (Note S) → List Float → Rendered S
  run_from [] mix = record { notes = []; mix = mix }
  run_from (n ∷ ns) mix =
      let r = v.run n.state mix in
      let rest = run_from ns r.mix in
      record {
        notes = with_state n r.state ∷ rest.notes;
        mix = rest.mix;
      }

  -- each sample starts at +0
  unfoldable pub run_all : List (Note S) → Rendered S
  run_all ns = run_from ns (replicate samples (of_bits binary32 0))
