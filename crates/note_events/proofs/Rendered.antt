-- The steps of a cycle over all notes: the code's notes are the notes of the program's voices.
use mathlib.Core.Path.{◌≡◌, refl, sym, ap, ◌∙◌}
use mathlib.Core.Bool.{Bool, true, false, cond, ◌&&◌}
use mathlib.Core.List.{List, [], ◌∷◌}
use Prim.Native.Nat.{ℕ, ◌+◌, ◌<◌}
use native.Mathlib.Omega.{arith}
use lib.Dec.{eqb}
use lib.Ieee.{Float}
use lib.ListN.{length, take, get_or}
use Rattle.std.specs.Option.{option_map_or}
use Rattle.score_line.specs.declared.Label.{Label}
use Rattle.score_line.specs.declared.Event.{Event}
use Rattle.score_line.specs.declared.Event.TheVariants.{Instr, Control, End, Tempo}
use Rattle.score_line.specs.declared.Line.{Line}
use Rattle.player_model.specs.Lists.{each, fold, filter, over}
use Rattle.midi_messages.specs.declared.NoteMessage.{NoteMessage}
use Rattle.player_model.specs.Cycle.{born, joined_by, release_oldest, pressed, after_message, after_messages, started_by, started, with_state, controlled_by, control_event, controlled, goes_on}
use Rattle.player_model.specs.Cycle as cycle
use Rattle.player_model.proofs.Lists.{cond-true, cond-false}
use Rattle.player_model.proofs.Loops.{fold-take, over-over}
use Rattle.note_state.specs.declared.Note.{Note}
use Rattle.code_program.specs.InstrumentTable.{instrument_in}
use Rattle.voices_compiled.specs.Voices.{VoiceState, voices, birth_of, named}
use Rattle.note_pool.specs.Notes.{started_in}
use Rattle.note_events.specs.Controls.{controlled_in, controls_in, controlled_all}
use Rattle.note_lifecycle.specs.OneNote.{note_of, struct_of, born_note, note_from_key, controlled_note, goes_on_in}
use Rattle.note_state.specs.Notes.{with_values}
use Rattle.code_program.specs.declared.Instrument.{Instrument}
use Rattle.note_pool.specs.Started.{StartedBy}
use Rattle.note_pool.specs.declared.Started.{Started}
use Rattle.note_pool.proofs.Steps.{length-each, struct-note, take-laid, Starting, starting-step}

pub control-in : (table : List Instrument) (label variable : ℕ) (value : Float) (n : Note) (f : Instrument) (y : Note)
    → f ≡ instrument_in table n.instrument → y ≡ controlled_note f n label variable value
    → y ≡ controlled_in table label variable value n
unfolding controlled_in
control-in table label variable value n f y e q =
    q ∙ ap (λ (g : Instrument). controlled_note g n label variable value) e

module _ (table : List Instrument) (code : List ℕ) (vals : List Float) where
  pub born-same : (position : ℕ) (l : Line) (label : Label) (name : ℕ) (duration : Float)
      → note_of (born_note code vals (instrument_in table name) l position label name duration) ≡ born (voices table code vals) position l label name duration
  unfolding born_note born voices birth_of
  born-same position l label name duration = refl

  -- ---- step 4

  control-one : (label variable : ℕ) (value : Float) (n : Note)
      → note_of (controlled_in table label variable value n) ≡ controlled_by (voices table code vals) label variable value (note_of n)
  unfolding controlled_in controlled_note controlled_by voices
  control-one label variable value n = go (option_map_or (eqb label) n.label false)
    where
      vs : List Float
      vs = named variable value (instrument_in table n.instrument).imports n.values

      go : (b : Bool) → note_of (cond b (with_values vs n) n) ≡ cond b (with_state (note_of n) (record { instrument = n.instrument; values = vs })) (note_of n)
      go true = refl
      go false = refl

  control-each : (label variable : ℕ) (value : Float) (ns : List Note)
      → each note_of (each (controlled_in table label variable value) ns) ≡ each (controlled_by (voices table code vals) label variable value) (each note_of ns)
  unfolding each
  control-each label variable value [] = refl
  control-each label variable value (n ∷ ns) = λ i. control-one label variable value n i ∷ control-each label variable value ns i

  control-event : (ns : List Note) (e : Event) → each note_of (controls_in table ns e) ≡ control_event (voices table code vals) (each note_of ns) e
  control-event ns (Instr label name duration) = refl
  control-event ns (Control label variable value) = control-each label variable value ns
  control-event ns End = refl
  control-event ns (Tempo t) = refl

  length-controls : (ns : List Note) (e : Event) → length (controls_in table ns e) ≡ length ns
  length-controls ns (Instr label name duration) = refl
  length-controls ns (Control label variable value) = length-each (controlled_in table label variable value) ns
  length-controls ns End = refl
  length-controls ns (Tempo t) = refl

  length-controlled : (ns : List Note) (ls : List Line) → length (controlled_all table ns ls) ≡ length ns
  unfolding controlled_all fold
  length-controlled ns [] = refl
  length-controlled ns (l ∷ ls) = length-controlled (controls_in table ns l.event) ls ∙ length-controls ns l.event

  pub control-lines-are : (ns : List Note) (k : ℕ) (ls : List Line) (r : List Note) → r ≡ over (controlled_all table (take k ns) ls) ns
      → take k r ≡ controlled_all table (take k ns) ls
  control-lines-are ns k ls r e = ap (take k) e ∙ take-laid (controlled_all table (take k ns) ls) ns k (length-controlled (take k ns) ls)

  pub control-more : (ns : List Note) (k i : ℕ) (d : Line) (ls : List Line) → i < length ls → (a r : List Note)
      → a ≡ over (controlled_all table (take k ns) (take i ls)) ns → r ≡ over (controls_in table (take k a) (get_or ls i d).event) a
      → r ≡ over (controlled_all table (take k ns) (take (i + 1) ls)) ns
  unfolding controlled_all
  control-more ns k i d ls h a r p q =
      let xs = controlled_all table (take k ns) (take i ls) in
      let e = (get_or ls i d).event in
      q ∙ (λ j. over (controls_in table (control-lines-are ns k (take i ls) a p j) e) (p j))
      ∙ over-over xs (controls_in table xs e) ns (let n = length-controls xs e in omega (arith, n))
      ∙ ap (λ (l : List Note). over l ns) (sym (fold-take (λ (ms : List Note) (l : Line). controls_in table ms l.event) (take k ns) ls i d h))

  pub control-all : (ns : List Note) (ls : List Line) → each note_of (controlled_all table ns ls) ≡ controlled (voices table code vals) (each note_of ns) ls
  unfolding controlled_all controlled fold
  control-all ns [] = refl
  control-all ns (l ∷ ls) =
      control-all (controls_in table ns l.event) ls
      ∙ ap (λ (ms : List (cycle.Note VoiceState)). controlled (voices table code vals) ms ls) (control-event ns l.event)

  -- ---- step 3

  pub born-found : (position : ℕ) (l : Line) (label : Label) (name : ℕ) (duration : Float) (f : Instrument) → f ≡ instrument_in table name
      → (n : Note) → n ≡ born_note code vals f l position label name duration
      → n ≡ born_note code vals (instrument_in table name) l position label name duration
  born-found position l label name duration f ef n en = en ∙ ap (λ (g : Instrument). born_note code vals g l position label name duration) ef

  pub start-instr : (most position : ℕ) (l : Line) (s : cycle.Started VoiceState) (e : Event) (label : Label) (name : ℕ) (duration : Float)
      → e ≡ Instr label name duration → (n : Note) → n ≡ born_note code vals (instrument_in table name) l position label name duration
      → joined_by most s (note_of n) ≡ started_by (voices table code vals) most position l s e
  start-instr most position l s e label name duration ee n en =
      ap (joined_by most s) (ap note_of en ∙ born-same position l label name duration)
      ∙ ap (started_by (voices table code vals) most position l s) (sym ee)

  pub starting-more : (most position : ℕ) (ns : List (cycle.Note VoiceState)) (ls : List Line) (i : ℕ) (d : Line) (old : List Note) (v r : Started) → i < length ls
      → Starting (started (voices table code vals) most position ns (take i ls)) old v
      → StartedBy (started_by (voices table code vals) most position (get_or ls i d) (started_in v.notes v.count v.missed) (get_or ls i d).event) v r
      → Starting (started (voices table code vals) most position ns (take (i + 1) ls)) old r
  unfolding started
  starting-more most position ns ls i d old v r h p b =
      let w = voices table code vals in
      starting-step (λ (s : cycle.Started VoiceState). started_by w most position (get_or ls i d) s (get_or ls i d).event) _ _ old v r
      (fold-take (λ (s : cycle.Started VoiceState) (l : Line). started_by w most position l s l.event) _ ls i d h) p b

  -- ---- the note messages

  pressed-same : (name : ℕ) (m : NoteMessage) → note_of (note_from_key code vals (instrument_in table name) name m) ≡ pressed (voices table code vals) name m
  unfolding note_from_key pressed voices birth_of
  pressed-same name m = refl

  pub press-starts : (most : ℕ) (s : cycle.Started VoiceState) (name : ℕ) (m : NoteMessage) → m.on ≡ true → (f : Instrument) → f ≡ instrument_in table name
      → (n : Note) → n ≡ note_from_key code vals f name m → joined_by most s (note_of n) ≡ after_message (voices table code vals) most name s m
  unfolding after_message
  press-starts most s name m o f ef n en =
      ap (joined_by most s) (ap note_of (en ∙ ap (λ (g : Instrument). note_from_key code vals g name m) ef) ∙ pressed-same name m)
      ∙ sym (cond-true _ _ o)

  pub off-marks : (most : ℕ) (s : cycle.Started VoiceState) (name : ℕ) (m : NoteMessage) → m.on ≡ false
      → record { notes = release_oldest m.channel m.key s.notes; missed = s.missed } ≡ after_message (voices table code vals) most name s m
  unfolding after_message
  off-marks most s name m o = sym (cond-false _ _ o)

  pub messages-more : (most name : ℕ) (s : cycle.Started VoiceState) (ms : List NoteMessage) (i : ℕ) (d : NoteMessage) (old : List Note) (v r : Started) → i < length ms
      → Starting (after_messages (voices table code vals) most name s (take i ms)) old v
      → StartedBy (after_message (voices table code vals) most name (started_in v.notes v.count v.missed) (get_or ms i d)) v r
      → Starting (after_messages (voices table code vals) most name s (take (i + 1) ms)) old r
  unfolding after_messages
  messages-more most name s ms i d old v r h p b =
      let w = voices table code vals in
      starting-step (λ (t : cycle.Started VoiceState). after_message w most name t (get_or ms i d)) _ _ old v r
      (fold-take (after_message w most name) s ms i d h) p b

-- ---- step 7

filter-each : (position : ℕ) (ns : List Note) → each note_of (filter (goes_on_in position) ns) ≡ filter (goes_on position) (each note_of ns)
unfolding filter each
filter-each position [] = refl
filter-each position (n ∷ ns) = go (goes_on position (note_of n)) (filter-each position ns)
  where
    go : (b : Bool) → each note_of (filter (goes_on_in position) ns) ≡ filter (goes_on position) (each note_of ns)
        → each note_of (cond b (n ∷ filter (goes_on_in position) ns) (filter (goes_on_in position) ns))
        ≡ cond b (note_of n ∷ filter (goes_on position) (each note_of ns)) (filter (goes_on position) (each note_of ns))
    go true h = ap (λ (l : List (cycle.Note VoiceState)). note_of n ∷ l) h
    go false h = h

-- the notes that go on, as the panel holds them
pub going : (position : ℕ) (ns : List Note) → filter (goes_on_in position) ns ≡ each struct_of (filter (goes_on position) (each note_of ns))
going position ns = sym (struct-note (filter (goes_on_in position) ns)) ∙ ap (each struct_of) (filter-each position ns)
