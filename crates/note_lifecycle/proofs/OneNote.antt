-- What the code makes of one note, put together from its calls.
use mathlib.Core.Path.{◌≡◌, refl, sym, ap, ◌∙◌}
use mathlib.Core.Bool.{Bool, true, false, not, ◌&&◌, and-true}
use mathlib.Core.List.{List, [], ◌∷◌, ◌++◌}
use Prim.Native.Nat.{ℕ, ◌+◌}
use lib.Dec.{eqb}
use lib.Ieee.{Float, binary32, eq, neg, of_bits, of_fields, size, odd, climb, span}
use lib.ListN.{take}
use borrow.Author.Tests.{eq-eqb, ne_eqb, eqb-true, eqb-false}
use Rattle.std.specs.Prelude.{Option, Some, None, nat_eq}
use Rattle.std.specs.Option.{option_map_or, option_eq}
use Rattle.base_timebase.specs.Time.{endless as without_end}
use Rattle.score_line.specs.declared.Label.{Label}
use Rattle.score_line.specs.declared.Line.{Line}
use Rattle.midi_keys.specs.Keys.{frequency_of, normalized_velocity}
use Rattle.midi_messages.specs.declared.NoteMessage.{NoteMessage}
use Rattle.player_model.specs.Cycle.{is_held}
use Rattle.player_model.proofs.Lists.{cond-true, cond-false, by-test}
use Rattle.player_model.proofs.Results.{and-false}
use Rattle.code_interpreter.specs.Passes.{stretch, frame_of, fresh_of, once, sums, Played, played}
use Rattle.code_interpreter.specs.WorkingArea.{numbers_in, working_area_of, area_played}
use Rattle.note_state.specs.Notes.{new_note, with_values}
use Rattle.code_interpreter.proofs.Rooms.{once-program, played-program}
use Rattle.note_state.specs.declared.Note.{Note}
use Rattle.voices_compiled.specs.Voices.{named}
use Rattle.note_lifecycle.specs.OneNote.{label_of, end_after, born_note, note_from_key, is_held_in, controlled_note, k_note, ran_note, ran_mix, ran_area}
use Rattle.code_program.specs.declared.Instrument.{Instrument}

pub minus_one : (x : Float) → eq x (neg (of_bits binary32 0x3f800000)) ≡ eq x without_end
unfolding neg of_bits of_fields size odd climb span
minus_one x = refl

pub begun-law : (vals : List Float) (ws : List ℕ) (note : Note) (room : List Float) → room ≡ working_area_of vals
    → (r : Note) → r ≡ with_values (once (numbers_in room) ws note.values) note → r ≡ with_values (once vals ws note.values) note
begun-law vals ws note room m r q =
    q ∙ ap (λ (u : List Float). with_values (once (numbers_in u) ws note.values) note) m
    ∙ ap (λ (u : List Float). with_values u note) (once-program vals ws note.values)

pub born-law : (code : List ℕ) (vals : List Float) (x : Instrument) (l : Line) (position : ℕ) (label : Label) (name : ℕ) (duration : Float)
    → (vs : List Float) → vs ≡ fresh_of (take x.fields (take l.count l.values)) → (end : Option ℕ) → end ≡ end_after position duration
    → (own : Option ℕ) → own ≡ label_of label → (note : Note) → note ≡ new_note vs own name end l.priority None false
    → (r : Note) → r ≡ with_values (once vals (stretch x.istart x.iend code) note.values) note
    → r ≡ born_note code vals x l position label name duration
unfolding born_note
born-law code vals x l position label name duration vs e end f own g note o r q =
    let ws = stretch x.istart x.iend code in
    q ∙ ap (λ (y : Note). with_values (once vals ws y.values) y) o
    ∙ (λ i. new_note (once vals ws (e i)) (g i) name (f i) l.priority None false)

-- nothing is cut off for a line without priority, with no note to cut off, or for the keyboard
pub born-yields : (code : List ℕ) (vals : List Float) (x : Instrument) (l : Line) (position : ℕ) (label : Label) (name : ℕ) (duration : Float) (b : Bool)
    → l.priority ≡ false → ((born_note code vals x l position label name duration).priority && b) ≡ false
unfolding born_note
born-yields code vals x l position label name duration b e = ap (λ (p : Bool). p && b) e

pub born-alone : (code : List ℕ) (vals : List Float) (x : Instrument) (l : Line) (position : ℕ) (label : Label) (name : ℕ) (duration : Float) (b : Bool)
    → b ≡ false → ((born_note code vals x l position label name duration).priority && b) ≡ false
unfolding born_note
born-alone code vals x l position label name duration b e = ap (λ (c : Bool). l.priority && c) e ∙ and-false l.priority

pub born-priority : (code : List ℕ) (vals : List Float) (x : Instrument) (l : Line) (position : ℕ) (label : Label) (name : ℕ) (duration : Float)
    → (n : Note) → n ≡ born_note code vals x l position label name duration → l.priority ≡ true → n.priority ≡ true
unfolding born_note
born-priority code vals x l position label name duration n q e = ap (λ (m : Note). m.priority) q ∙ e

pub pressed-yields : (code : List ℕ) (vals : List Float) (x : Instrument) (name : ℕ) (m : NoteMessage) (b : Bool)
    → ((note_from_key code vals x name m).priority && b) ≡ false
unfolding note_from_key
pressed-yields code vals x name m b = refl

pub pressed-law : (code : List ℕ) (vals : List Float) (x : Instrument) (name : ℕ) (m : NoteMessage)
    → (f : Float) → f ≡ frequency_of m.key → (l : Float) → l ≡ normalized_velocity m.velocity
    → (vs : List Float) → vs ≡ fresh_of (take x.fields (f ∷ l ∷ []))
    → (note : Note) → note ≡ new_note vs None name None false (Some (m.channel, m.key)) false
    → (r : Note) → r ≡ with_values (once vals (stretch x.istart x.iend code) note.values) note
    → r ≡ note_from_key code vals x name m
unfolding note_from_key
pressed-law code vals x name m f ef l el vs e note o r q =
    let ws = stretch x.istart x.iend code in
    q ∙ ap (λ (y : Note). with_values (once vals ws y.values) y) o
    ∙ (λ i. new_note (once vals ws ((e ∙ (λ j. fresh_of (take x.fields (ef j ∷ el j ∷ [])))) i)) None name None false (Some (m.channel, m.key)) false)

-- ---- an unmarked note of a key of a channel

module _ (n : Note) (channel key : ℕ) where
  abbrev same_key : Option (ℕ × ℕ) → Bool
  same_key o = option_map_or (λ (k : ℕ × ℕ). eqb k.0 channel && eqb k.1 key) o false

  pub held-marked : n.released ≡ true → false ≡ is_held_in channel key n
  unfolding is_held
  held-marked a = sym (ap (λ (r : Bool). same_key n.key && not r) a ∙ and-false (same_key n.key))

  pub held-key : n.released ≡ false → (own : ℕ × ℕ) → n.key ≡ Some own → (eqb own.0 channel && eqb own.1 key) ≡ is_held_in channel key n
  unfolding is_held
  held-key a own e = sym ((λ i. same_key (e i) && not (a i)) ∙ and-true (eqb own.0 channel && eqb own.1 key))

  pub held-no-key : n.key ≡ None → false ≡ is_held_in channel key n
  unfolding is_held
  held-no-key e = sym (λ i. same_key (e i) && not n.released)

-- ---- a control line

pub same-label : (label : ℕ) (o : Option ℕ) → option_eq nat_eq o (Some label) ≡ option_map_or (eqb label) o false
same-label label None = refl
same-label label (Some own) =
    by-test (eqb label own) (λ e. eq-eqb own label (sym (eqb-true label own e)) ∙ sym e) (λ e. ne_eqb own label (λ q. eqb-false label own e (sym q)) ∙ sym e)

module _ (x : Instrument) (n : Note) (label variable : ℕ) (value : Float) where
  pub control-yes : option_map_or (eqb label) n.label false ≡ true → (w : ℕ) → w ≡ variable → (vs : List Float) → vs ≡ named w value x.imports n.values
      → (r : Note) → r ≡ with_values vs n → r ≡ controlled_note x n label variable value
  unfolding controlled_note
  control-yes a w e vs q r p =
      p ∙ ap (λ (l : List Float). with_values l n) (q ∙ ap (λ (y : ℕ). named y value x.imports n.values) e) ∙ sym (cond-true _ _ a)

  pub control-other : option_map_or (eqb label) n.label false ≡ false → n ≡ controlled_note x n label variable value
  unfolding controlled_note
  control-other a = sym (cond-false _ _ a)

-- a note's cycle in a room whose numbers stay
module _ (code : List ℕ) (N N' : List Float) (x : Instrument) (n k : Note) (mix : List Float) (e : N' ≡ N)
    (h : k ≡ with_values (once N (stretch x.kstart x.kend code) n.values) n) where
  pub ran-in : {r : Note} → r ≡ with_values (played N' (stretch x.astart x.aend code) k.values mix).values k → r ≡ ran_note code N x n mix
  unfolding ran_note k_note
  ran-in q = q ∙ (λ i. with_values (played (e i) (stretch x.astart x.aend code) (h i).values mix).values (h i))

  pub mixed-in : {m : List Float} → m ≡ (played N' (stretch x.astart x.aend code) k.values mix).mix → m ≡ ran_mix code N x n mix
  unfolding ran_mix k_note
  mixed-in q = q ∙ (λ i. (played (e i) (stretch x.astart x.aend code) (h i).values mix).mix)

pub area_in : (code : List ℕ) (room room' : List Float) (x : Instrument) (n k : Note) (mix : List Float) → numbers_in room' ≡ numbers_in room
    → k ≡ with_values (once (numbers_in room) (stretch x.kstart x.kend code) n.values) n
    → {a : List Float} → a ≡ area_played room' (stretch x.astart x.aend code) k.values mix → a ≡ ran_area code room x n mix
unfolding ran_area k_note area_played
area_in code room room' x n k mix e h q = q ∙ (λ i. (sums (e i) (stretch x.astart x.aend code) (frame_of (h i).values) mix).frame ++ e i)

-- and in a room with the program's numbers
module _ (code : List ℕ) (vals : List Float) (x : Instrument) (n : Note) (mix N : List Float) (e : N ≡ numbers_in (working_area_of vals)) where
  abbrev k_code : List ℕ
  k_code = stretch x.kstart x.kend code

  abbrev a_code : List ℕ
  a_code = stretch x.astart x.aend code

  k-here : once N k_code n.values ≡ once vals k_code n.values
  k-here = ap (λ (u : List Float). once u k_code n.values) e ∙ once-program vals k_code n.values

  a-here : (vs : List Float) → played N a_code vs mix ≡ played vals a_code vs mix
  a-here vs = ap (λ (u : List Float). played u a_code vs mix) e ∙ played-program vals a_code vs mix

  pub ran-here : ran_note code N x n mix ≡ ran_note code vals x n mix
  unfolding ran_note k_note
  ran-here =
      ap (λ (u : List Float). with_values (played N a_code u mix).values (with_values u n)) k-here
      ∙ ap (λ (q : Played). with_values q.values (with_values (once vals k_code n.values) n)) (a-here (once vals k_code n.values))

  pub mixed-here : ran_mix code N x n mix ≡ ran_mix code vals x n mix
  unfolding ran_mix k_note
  mixed-here = ap (λ (u : List Float). (played N a_code u mix).mix) k-here ∙ ap (λ (q : Played). q.mix) (a-here (once vals k_code n.values))
