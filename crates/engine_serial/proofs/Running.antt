-- One note's run after the other's: the notes that have run are the first of the cycle's notes, run.
use mathlib.Core.Path.{◌≡◌, refl, sym, ap, ◌∙◌}
use mathlib.Core.List.{List, [], ◌∷◌, ◌++◌}
use Prim.Native.Nat.{ℕ, suc, ◌+◌, ◌<◌}
use native.Mathlib.Omega.{arith}
use native.Mathlib.Numerals.{add-one}
use lib.Ieee.{Float}
use lib.ListN.{length, take, drop, get_or, set, length-set}
use lib.Seq.{take-suc, take-suc-set, drop-set-lt}
use Rattle.player_model.specs.Lists.{each, over}
use Rattle.player_model.specs.Cycle.{Rendered, with_state, run_from}
use Rattle.player_model.specs.Cycle as cycle
use Rattle.code_interpreter.specs.Run.{run}
use Rattle.code_interpreter.specs.Passes.{sums, played}
use Rattle.note_state.specs.declared.Note.{Note}
use Rattle.code_program.specs.InstrumentTable.{instrument_in}
use Rattle.code_program.specs.declared.Instrument.{Instrument}
use Rattle.voices_compiled.specs.Voices.{VoiceState, voices, ran_values, ran_mix_of}
use Rattle.note_lifecycle.specs.OneNote.{note_of, struct_of, k_note, ran_note, ran_mix}
use Rattle.note_pool.specs.Notes.{notes_in}
use Rattle.note_pool.proofs.Steps.{each_append, each-one, length-each, drop_more, notes-laid}

-- the first notes of an array, with the mix that they add to
abbrev rendered_in : List Note → ℕ → List Float → Rendered VoiceState
rendered_in ns n mix = record { notes = notes_in ns n; mix = mix }

one_more : (l : List Note) (j : ℕ) (d : Note) → j < length l → notes_in l (j + 1) ≡ notes_in l j ++ (note_of (get_or l j d) ∷ [])
one_more l j d h =
    rw (add-one, take-suc l j d h) (each_append note_of (take j l) (get_or l j d ∷ []) ∙ ap (λ (t : List (cycle.Note VoiceState)). notes_in l j ++ t) (each-one note_of (get_or l j d)))

one_set : (a : List Note) (j : ℕ) (y : Note) → j < length a → notes_in (set a j y) (j + 1) ≡ notes_in a j ++ (note_of y ∷ [])
one_set a j y h =
    rw (add-one, take-suc-set a j y h) (each_append note_of (take j a) (y ∷ []) ∙ ap (λ (t : List (cycle.Note VoiceState)). notes_in a j ++ t) (each-one note_of y))

module _ (table : List Instrument) (code : List ℕ) (vals : List Float) where
  -- one note's run after others
  ran_on : Rendered VoiceState → cycle.Note VoiceState → Rendered VoiceState
  ran_on b n =
      record {
        notes = b.notes ++ (with_state n ((voices table code vals).run n.state b.mix).state ∷ []);
        mix = ((voices table code vals).run n.state b.mix).mix;
      }

  run_more : (ns : List (cycle.Note VoiceState)) (n : cycle.Note VoiceState) (mix : List Float)
      → run_from (voices table code vals) (ns ++ (n ∷ [])) mix ≡ ran_on (run_from (voices table code vals) ns mix) n
  unfolding run_from ran_on
  run_more [] n mix = refl
  run_more (m ∷ ns) n mix =
      let v = voices table code vals in
      ap (λ (b : Rendered VoiceState). record { notes = with_state m (v.run m.state mix).state ∷ b.notes; mix = b.mix })
      (run_more ns n (v.run m.state mix).mix)

  length_run : (ns : List (cycle.Note VoiceState)) (mix : List Float) → length (run_from (voices table code vals) ns mix).notes ≡ length ns
  unfolding run_from
  length_run [] mix = refl
  length_run (n ∷ ns) mix = ap suc (length_run ns ((voices table code vals).run n.state mix).mix)

  pub run-notes-are : (ns : List Note) (k : ℕ) (mix : List Float) (r : List Note)
      → r ≡ over (each struct_of (run_from (voices table code vals) (notes_in ns k) mix).notes) ns
      → notes_in r k ≡ (run_from (voices table code vals) (notes_in ns k) mix).notes
  run-notes-are ns k mix r e =
      ap (λ (l : List Note). notes_in l k) e
      ∙ notes-laid (run_from (voices table code vals) (notes_in ns k) mix).notes ns k (length_run (notes_in ns k) mix ∙ length-each note_of (take k ns))

  -- what a note's run gives
  ran-same : (n : Note) (mix : List Float)
      → (note_of (ran_note code vals (instrument_in table n.instrument) n mix) ≡ with_state (note_of n) ((voices table code vals).run (note_of n).state mix).state)
      × (ran_mix code vals (instrument_in table n.instrument) n mix ≡ ((voices table code vals).run (note_of n).state mix).mix)
  unfolding ran_note ran_mix k_note voices ran_values ran_mix_of
  ran-same n mix = (refl, refl)

  length-sums : (ws : List ℕ) (f mix : List Float) → length (sums vals ws f mix).mix ≡ length mix
  unfolding sums
  length-sums ws f [] = refl
  length-sums ws f (x ∷ xs) = ap suc (length-sums ws (run vals ws f).frame xs)

  length-ran : (x : Instrument) (n : Note) (mix : List Float) → length (ran_mix code vals x n mix) ≡ length mix
  unfolding ran_mix k_note played
  length-ran x n mix = length-sums _ _ mix

  -- the first j notes have run
  pub record Running (notes a : List Note) (start mix : List Float) (j : ℕ) : Type 0 where
    pub long : length a ≡ 16
    pub samples : length mix ≡ length start
    pub are : rendered_in a j mix ≡ run_from (voices table code vals) (notes_in notes j) start
    pub behind : drop j a ≡ drop j notes

  pub running_none : (notes : List Note) (mix : List Float) → length notes ≡ 16 → Running notes notes mix mix 0
  unfolding run_from each
  running_none notes mix h = record { long = h; samples = refl; are = refl; behind = refl }

  pub running-step : (notes a : List Note) (start mix : List Float) (j : ℕ) (d : Note) → length notes ≡ 16 → j < 16
      → (f : Instrument) → f ≡ instrument_in table (get_or notes j d).instrument
      → (y : Note) → y ≡ ran_note code vals f (get_or notes j d) mix
      → (mix' : List Float) → mix' ≡ ran_mix code vals f (get_or notes j d) mix
      → Running notes a start mix j → Running notes (set a j y) start mix' (j + 1)
  unfolding ran_on
  running-step notes a start mix j d ln h f ef y ey mix' em r =
      let n = get_or notes j d in
      let v = voices table code vals in
      let y-is : note_of y ≡ with_state (note_of n) (v.run (note_of n).state mix).state =
      ap note_of (ey ∙ ap (λ (g : Instrument). ran_note code vals g n mix) ef) ∙ (ran-same n mix).0 in
      let m-is : mix' ≡ (v.run (note_of n).state mix).mix =
      em ∙ ap (λ (g : Instrument). ran_mix code vals g n mix) ef ∙ (ran-same n mix).1 in
      record {
        long = length-set a j y ∙ r.long;
        samples = ap length em ∙ length-ran f n mix ∙ r.samples;
        are =
            ap (λ (l : List (cycle.Note VoiceState)). record { notes = l; mix = mix' }) (one_set a j y (omega (arith, r.long)))
            ∙ (λ i. record { notes = notes_in a j ++ (y-is i ∷ []); mix = m-is i })
            ∙ ap (λ (b : Rendered VoiceState). ran_on b (note_of n)) r.are
            ∙ sym (run_more (notes_in notes j) (note_of n) start)
            ∙ ap (λ (l : List (cycle.Note VoiceState)). run_from v l start) (sym (one_more notes j d (omega arith)));
        behind = drop-set-lt (j + 1) a j y (omega arith) ∙ drop_more a notes j (j + 1) (omega arith) r.behind;
      }
