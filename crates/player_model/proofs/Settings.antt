-- What is set is what the records say; the starting tempo; sounding notes stay.
use mathlib.Core.Path.{◌≡◌, refl, ap, ◌∙◌}
use mathlib.Core.Bool.{false, not}
use mathlib.Core.List.{List, [], ◌∷◌, ◌++◌, append-nil}
use Prim.Native.Nat.{ℕ, ◌+◌, ◌-◌}
use native.Mathlib.Omega.{arith}
use lib.IntN.{pos}
use lib.Ieee.{binary32, of_bits, of_int}
use lib.ListN.{length, take, drop}
use lib.Seq.{take-nil}
use Rattle.score_line.specs.declared.Event.{Event}
use Rattle.score_line.specs.declared.Event.TheVariants.{Instr, Control, End, Tempo}
use Rattle.score_line.specs.declared.Line.{Line}
use Rattle.settings_records.specs.Changes.{in_use}
use Rattle.settings_records.specs.declared.InUse.{InUse}
use Rattle.settings_records.specs.Form.{Found}
use Rattle.settings_records.proofs.Meaning.{one-meaning}
use Rattle.settings_records.proofs.Areas.{one-meaning-records}
use Rattle.player_model.specs.Lists.{All, filter}
use Rattle.player_model.specs.Cycle.{Voices, Note, born}
use Rattle.player_model.specs.PlayerState.{default_tempo, behind, with_messages, started_of}
use Rattle.player_model.specs.Calls.{numbered, Transition}
use Rattle.player_model.specs.Set.{starting_tempo}
use Rattle.player_model.specs.Plain.{plain_start}
use Rattle.player_model.specs.History.{History, with_transition, history_from}
use Rattle.player_model.specs.Results.{born_by, births, cut_first, filled, come_then, replaced, NotesStart}
use Rattle.player_model.specs.SettingsResults.{SetByRecords, StartingTicks, TempoOfFreshStart, SoundingStay}
use Rattle.player_model.proofs.Lists.{cond-false}
use Rattle.player_model.proofs.Count.{starting-ticks}
use Rattle.player_model.proofs.Starting.{notes-start}

pub set-by-records : SetByRecords
set-by-records =
    record {
      change = λ k area handed s i. ap (λ (f : Found). in_use (k.count + 1) f.setting) (one-meaning handed _ i);
      undo = λ k area s size i. ap (λ (f : Found). in_use (k.count - 1) f.setting) (one-meaning-records (k.count - 1) area _ i);
    }

is-sixty : of_int binary32 (pos 60) ≡ default_tempo
unfolding default_tempo of_int of_bits
is-sixty = refl

sixty : (k : InUse) → k.last.tempo ≡ 60 → starting_tempo k ≡ default_tempo
unfolding starting_tempo
sixty k e = ap (λ (n : ℕ). of_int binary32 (pos n)) e ∙ is-sixty

pub starting-so : StartingTicks
starting-so = record { every = starting-ticks; version_one = λ count ceiling notes. sixty _ refl }

-- ---- until the first cycle

module _ {P S : Type 0} (v : Voices S) where
  tempo-stays : (chosen : ℕ) (ms : List (Transition P)) (h : History S) → All (λ (m : Transition P). numbered m.call ≡ false) ms
      → (history_from v chosen h ms).holds.plays.tempo ≡ h.holds.plays.tempo
  unfolding history_from behind with_messages
  tempo-stays chosen [] h a = refl
  tempo-stays chosen (m ∷ ms) h a =
      tempo-stays chosen ms (with_transition v chosen h m) a.1
      ∙ ap (λ (x : History S). x.holds.plays.tempo) (cond-false _ _ a.0)

pub tempo-of-fresh-start : {S : Type 0} (v : Voices S) → TempoOfFreshStart v
unfolding TempoOfFreshStart plain_start
tempo-of-fresh-start v P chosen k ms a = tempo-stays v chosen ms _ a

-- ---- sounding notes stay

module _ {S : Type 0} (v : Voices S) where
  prior : List (Note S) → List (Note S)
  prior ns = filter (λ (n : Note S). n.priority) ns

  none-prior : (position : ℕ) (ls : List Line) → All (λ (l : Line). l.priority ≡ false) ls → prior (births v position ls) ≡ []
  unfolding prior births filter born
  none-prior position [] a = refl
  none-prior position (l ∷ ls) a = one l.event (none-prior position ls a.1)
    where
      one : (e : Event) → prior (births v position ls) ≡ [] → prior (born_by v position l e ++ births v position ls) ≡ []
      one (Instr label i d) r = cond-false _ _ a.0 ∙ r
      one (Control label x value) r = r
      one End r = r
      one (Tempo t) r = r

  pub sounding-stay : SoundingStay v
  unfolding SoundingStay NotesStart started_of prior cut_first
  sounding-stay s due p h a =
      let none : s.most_notes - length p.notes ≡ 0 = omega arith in
      let new : List (Note S) = births v p.position due.lines in
      notes-start-here ∙ (λ i. replaced v (p.notes ++ take (none i) new) (prior (drop (none i) new)))
      ∙ (λ i. replaced v (append-nil p.notes i) (none-prior p.position due.lines a i)) ∙ last
    where
      last : replaced v p.notes [] ≡ p.notes
      last = ap (λ (x : List (Note S)). p.notes ++ x) (take-nil (length (filter (λ (n : Note S). not n.priority) p.notes))) ∙ append-nil p.notes

      notes-start-here : (started_of v s due p).notes
          ≡ replaced v (filled v s.most_notes p.notes (births v p.position due.lines)) (come_then v s.most_notes p.notes (births v p.position due.lines))
      notes-start-here = (notes-start v s.most_notes p.position p.notes due.lines).notes
