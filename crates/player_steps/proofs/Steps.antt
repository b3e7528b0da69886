-- Steps 2 to 8, put together from what each call leaves.
use mathlib.Core.Path.{◌≡◌, sym, ap, ◌∙◌}
use mathlib.Core.Bool.{false}
use mathlib.Core.List.{List}
use Prim.Native.Nat.{ℕ, ◌+◌, min}
use lib.IntN.{ℤ}
use lib.Ieee.{Float}
use lib.ListN.{length, take}
use lib.Seq.{take_at}
use Rattle.base_timebase.specs.Time.{cycle_in}
use Rattle.engine_limiter.specs.Block as block
use Rattle.note_state.specs.declared.Note.{Note}
use Rattle.player_model.specs.Lists.{each, filter, over}
use Rattle.player_model.specs.Cycle.{Voices, Rendered, Started, last_tempo, started, controlled, after_messages, run_all, goes_on}
use Rattle.player_model.specs.Cycle as cycle
use Rattle.player_model.specs.PlayerState.{Due, settings_of, started_of, notes_to_run, rendered_of, played}
use Rattle.player_model.specs.inside.PlayerState.{capped, most_counted}
use Rattle.voices_compiled.specs.Voices.{VoiceState, voices}
use Rattle.note_pool.specs.Notes.{notes_in, started_in as started_notes, started_over}
use Rattle.note_events.specs.Controls.{controlled_all}
use Rattle.note_lifecycle.specs.OneNote.{note_of, struct_of, goes_on_in}
use Rattle.code_program.specs.declared.Instrument.{Instrument}
use Rattle.note_pool.specs.declared.Started.{Started as Starts}
use Rattle.note_pool.proofs.Steps.{length-each, started-are}
use Rattle.note_events.proofs.Rendered.{control-all, going as going-as}
use Rattle.engine_serial.proofs.Running.{run-notes-are}
use Rattle.player_state.specs.Playing.{playing_state_of}
use Rattle.player_steps.specs.Steps.{advanced, performed_of}
use Rattle.player_steps.specs.declared.Performed.{Performed}
use Rattle.player_state.specs.declared.Playing.{Playing}

module _ (table : List Instrument) (code : List ℕ) (vals : List Float) (ceiling most chosen : ℕ) (p : Playing) (due : Due) where
  abbrev v : Voices VoiceState
  v = voices table code vals

  abbrev old : List Note
  old = p.notes.notes

  abbrev born : Started VoiceState
  born = started v most p.position (notes_in old p.notes.count) due.lines

  abbrev rendered : Rendered VoiceState
  rendered = rendered_of v (settings_of ceiling most chosen) due (playing_state_of p)

  pub born-law : (m : ℕ) → m ≡ most → (r : Starts) → r ≡ started_over (started v m p.position (notes_in old p.notes.count) due.lines) old
      → started_notes r.notes r.count r.missed ≡ born
  born-law m em r e =
      started-are _ old r e ∙ (λ i. started v (em i) p.position (notes_in old p.notes.count) due.lines)

  -- what sounds after the note messages
  abbrev sounds : Started VoiceState
  sounds = notes_to_run v (settings_of ceiling most chosen) due (playing_state_of p)

  pub sounds-law : (m : ℕ) → m ≡ most → (vn : List Note) (vc vm : ℕ) → started_notes vn vc vm ≡ born
      → (cn : List Note) (cc : ℕ) → take cc cn ≡ controlled_all table (take vc vn) due.lines
      → (k : Starts) → k ≡ started_over (after_messages v m chosen (started_notes cn cc vm) due.messages) cn
      → started_notes k.notes k.count k.missed ≡ sounds
  unfolding notes_to_run started_of
  sounds-law m em vn vc vm e cn cc f k q =
      let c : notes_in cn cc ≡ controlled v (notes_in vn vc) due.lines = ap (each note_of) f ∙ control-all table code vals (take vc vn) due.lines in
      started-are _ cn k q ∙ (λ i. after_messages v (em i) chosen (started_notes cn cc vm) due.messages)
      ∙ ap (λ (ns : List (cycle.Note VoiceState)). after_messages v most chosen (record { notes = ns; missed = vm }) due.messages) c
      ∙ ap (λ (s : Started VoiceState). after_messages v most chosen (record { notes = controlled v s.notes due.lines; missed = s.missed }) due.messages) e

  module _ (kn : List Note) (kc km : ℕ) (e : started_notes kn kc km ≡ sounds) where
    rendered-law : run_all v (notes_in kn kc) ≡ rendered
    unfolding rendered_of
    rendered-law = ap (λ (s : Started VoiceState). run_all v s.notes) e

    pub block-law : (lent left : List ℤ) → left ≡ block.limited ceiling (run_all v (notes_in kn kc)).mix lent → left ≡ block.limited ceiling rendered.mix lent
    block-law lent left q = q ∙ ap (λ (b : Rendered VoiceState). block.limited ceiling b.mix lent) rendered-law

    -- what is heard of the notes, and how many they are
    pub heard-law : (hn : List Note) (hc : ℕ) → hc ≡ kc → hn ≡ over (each struct_of (run_all v (notes_in kn kc)).notes) kn
        → notes_in hn hc ≡ (run_all v (notes_in kn kc)).notes
    unfolding run_all
    heard-law hn hc c h = ap (notes_in hn) c ∙ run-notes-are table code vals kn kc _ hn h

    pub perform-law : (hn : List Note) (hc : ℕ) → notes_in hn hc ≡ (run_all v (notes_in kn kc)).notes
        → (gn : List Note) (gc : ℕ) → gc ≡ length (filter (goes_on_in p.position) (take hc hn)) → gn ≡ over (filter (goes_on_in p.position) (take hc hn)) hn
        → (out : List Note) → out ≡ over (take gc gn) old
        → (total : ℕ) → total ≡ min (p.missed + km) most_counted
        → record { notes = record { notes = out; count = gc }; missed = total } ≡ performed_of v (settings_of ceiling most chosen) due p
    unfolding performed_of advanced capped played
    perform-law hn hc h gn gc eg en out eo total em =
        let going = filter (goes_on p.position) rendered.notes in
        let k : filter (goes_on_in p.position) (take hc hn) ≡ each struct_of going =
        going-as p.position (take hc hn)
        ∙ ap (λ (ns : List (cycle.Note VoiceState)). each struct_of (filter (goes_on p.position) ns)) (h ∙ ap (λ (b : Rendered VoiceState). b.notes) rendered-law) in
        let t : take gc gn ≡ filter (goes_on_in p.position) (take hc hn) =
        ap (take gc) en ∙ take_at (filter (goes_on_in p.position) (take hc hn)) _ gc (sym eg) in
        λ i. record {
          notes = record {
            notes = (eo ∙ ap (λ (ns : List Note). over ns old) (t ∙ k)) i;
            count = (eg ∙ ap length k ∙ length-each struct_of going) i;
          };
          missed = (em ∙ ap (λ (s : Started VoiceState). min (p.missed + s.missed) most_counted) e) i;
        }

  -- what plays afterwards, from its parts
  pub advance-law : (t : Performed) → t ≡ performed_of v (settings_of ceiling most chosen) due p → (tempo : Float) → tempo ≡ last_tempo p.tempo due.lines
      → (step : ℕ) → step ≡ cycle_in tempo
      → ◌≡◌ {A = Playing} (record { notes = t.notes; position = p.position + step; tempo = tempo; missed = t.missed; ended = false })
      (advanced v (settings_of ceiling most chosen) due p)
  unfolding performed_of advanced capped played
  advance-law t et tempo e step es =
      λ i. record {
        notes = (et i).notes;
        position = p.position + (es ∙ ap cycle_in e) i;
        tempo = e i;
        missed = (et i).missed;
        ended = false;
      }
