-- One law for each call.
use mathlib.Core.Path.{◌≡◌, sym, ap, ◌∙◌}
use mathlib.Core.Bool.{Bool, true, false}
use mathlib.Core.List.{List}
use Prim.Native.Nat.{ℕ}
use lib.Ieee.{Float}
use Rattle.score_reader.specs.Score.{Score}
use Rattle.base_answer.specs.declared.Answer.TheVariants.{Ended}
use Rattle.settings_records.specs.Changes as records
use Rattle.settings_records.specs.declared.InUse.{InUse}
use Rattle.base_answer.specs.declared.Answered.{Answered}
use Rattle.player_model.proofs.Lists.{cond-true, cond-false}
use Rattle.player_model.specs.Calls.{Entrance, must_be_timed, reads}
use Rattle.player_start.specs.Starting.{starting_of}
use Rattle.player_start.specs.declared.Start.{Start}
use Rattle.entrance_readers.specs.Entrances.{entrance_read_of, score_in}
use Rattle.entrance_readers.specs.declared.EntranceRead.{EntranceRead}
use Rattle.entrance_admission.proofs.Pushing.{handed-timed, handed-brings}
use Rattle.panel.specs.State.{instruments_of, voices_with, settings_in, in_state, in_settings, panel_of, panel_at}
use Rattle.panel.specs.Calls.{fresh_of, submitted_of, submit_of, receive_of, play_keys_of, changed_in, area_in, undone_in, change_of, undo_of, cycle_of}
use Rattle.panel.specs.declared.Core.{Core}
use Rattle.base_answer.specs.declared.AnsweredLine.{AnsweredLine}
use Rattle.base_answer.specs.declared.AnsweredUnits.{AnsweredUnits}
use Rattle.score_bursts.specs.inside.Reading.{burst_of}
use Rattle.player_calls.specs.OnState as on_state
use Rattle.player_cycle.specs.CycleCall.{cycled_of}
use Rattle.player_calls.specs.OnState.{burst_submitted_of, keyboard_call_of}
use Rattle.player_queue.specs.declared.Queue.{Queue}
use Rattle.panel.specs.declared.Panel.{Panel}
use Rattle.player_state.specs.declared.State.{State}

-- a fresh start, from what it starts with
pub starts : (orchestra area first : List ℕ) (chosen : ℕ) (s : Start) → s ≡ starting_of orchestra area first chosen
    → record { left = panel_at s; answer = s.answer } ≡ fresh_of orchestra area first chosen
unfolding fresh_of
starts orchestra area first chosen s e = ap (λ (x : Start). record { left = panel_at x; answer = x.answer }) e

-- a change and an undo, 9 first
module _ {ended : Bool} (k : InUse) (area : List ℕ) where
  pub change-over : (handed : List ℕ) → ended ≡ true → (records.changed k Ended ≡ changed_in ended k area handed) × (area ≡ area_in ended k area handed)
  unfolding changed_in area_in
  change-over handed e = (sym (cond-true _ _ e), sym (cond-true _ _ e))

  pub change-open : (handed : List ℕ) → ended ≡ false → {r : Answered InUse} {left : List ℕ} → (r ≡ records.change_of k area handed) × (left ≡ records.area_changed k.count area handed)
      → (r ≡ changed_in ended k area handed) × (left ≡ area_in ended k area handed)
  unfolding changed_in area_in
  change-open handed e q = (q.0 ∙ sym (cond-false _ _ e), q.1 ∙ sym (cond-false _ _ e))

  pub undo-over : ended ≡ true → records.changed k Ended ≡ undone_in ended k area
  unfolding undone_in
  undo-over e = sym (cond-true _ _ e)

  pub undo-open : ended ≡ false → {r : Answered InUse} → r ≡ records.undo_of k area → r ≡ undone_in ended k area
  unfolding undone_in
  undo-open e q = q ∙ sym (cond-false _ _ e)

-- a call on the core, from the call on its state or its settings
module _ (c : Core) where
  pub brings-in : (timed : Bool) (s : Score) (r : AnsweredLine State) → r ≡ on_state.submitted_of (instruments_of c) c.state timed s
      → record { left = in_state c r.left; answer = r.answer; line = r.line } ≡ submitted_of c timed s
  unfolding submitted_of
  brings-in timed s r e = ap (λ (x : AnsweredLine State). record { left = in_state c x.left; answer = x.answer; line = x.line }) e

  pub receives : (bytes : List ℕ) (places : ℕ) (r : AnsweredUnits State) → r ≡ burst_submitted_of (instruments_of c) c.state places (burst_of bytes)
      → record { left = in_state c r.left; answer = r.answer; units = r.units } ≡ receive_of c bytes places
  unfolding receive_of
  receives bytes places r e = ap (λ (x : AnsweredUnits State). record { left = in_state c x.left; answer = x.answer; units = x.units }) e

  pub presses : (bytes : List ℕ) (r : Answered State) → r ≡ keyboard_call_of c.state bytes → record { left = in_state c r.left; answer = r.answer } ≡ play_keys_of c bytes
  unfolding play_keys_of
  presses bytes r e = ap (λ (x : Answered State). record { left = in_state c x.left; answer = x.answer }) e

  pub changes : (area handed : List ℕ) (r : Answered InUse) → r ≡ changed_in c.state.playing.ended c.settings area handed
      → record { left = in_settings c r.left; answer = r.answer } ≡ change_of c area handed
  unfolding change_of
  changes area handed r e = ap (λ (x : Answered InUse). record { left = in_settings c x.left; answer = x.answer }) e

  pub undoes : (area : List ℕ) (r : Answered InUse) → r ≡ undone_in c.state.playing.ended c.settings area
      → record { left = in_settings c r.left; answer = r.answer } ≡ undo_of c area
  unfolding undo_of
  undoes area r e = ap (λ (x : Answered InUse). record { left = in_settings c x.left; answer = x.answer }) e

  pub cycles : (code : List ℕ) (vals : List Float) (n : ℕ) (r : Answered State) → r ≡ cycled_of (voices_with code vals c) (settings_in c) c.state n
      → record { left = in_state c r.left; answer = r.answer } ≡ cycle_of code vals c n
  unfolding cycle_of
  cycles code vals n r e = ap (λ (x : Answered State). record { left = in_state c x.left; answer = x.answer }) e

-- what is handed over at an entrance does what the whole reading does
module _ (c : Core) (d : Entrance) (handed : List ℕ) where
  abbrev given : EntranceRead
  given = entrance_read_of (must_be_timed d) (reads d handed)

  pub by-entrance : (h : EntranceRead) → h ≡ given → (x : AnsweredLine Core) → x ≡ submitted_of c h.timed (score_in h) → x ≡ submit_of c d handed
  unfolding submit_of submitted_of on_state.submitted_of
  by-entrance h e x q =
      q ∙ ap (λ (y : EntranceRead). submitted_of c y.timed (score_in y)) e
      ∙ ap (λ (t : Bool). submitted_of c t (score_in given)) (handed-timed (must_be_timed d) (reads d handed))
      ∙ ap (λ (r : AnsweredLine Queue). record { left = in_state c (on_state.with_queue c.state r.left); answer = r.answer; line = r.line })
      (handed-brings c.state.playing.ended (must_be_timed d) (instruments_of c) c.state.queue (reads d handed))

-- a panel's call is its core's
module _ {code : List ℕ} {vals : List Float} where
  pub enters_on : {r : AnsweredLine Panel} {x y : AnsweredLine Core} → r ≡ record { left = panel_of x.left code vals; answer = x.answer; line = x.line } → x ≡ y
      → r ≡ record { left = panel_of y.left code vals; answer = y.answer; line = y.line }
  enters_on e q = e ∙ ap (λ (x : AnsweredLine Core). record { left = panel_of x.left code vals; answer = x.answer; line = x.line }) q

  pub receives-on : {x y : AnsweredUnits Core} → x ≡ y
      → ◌≡◌ {A = AnsweredUnits Panel} (record { left = panel_of x.left code vals; answer = x.answer; units = x.units }) (record { left = panel_of y.left code vals; answer = y.answer; units = y.units })
  receives-on q = ap (λ (x : AnsweredUnits Core). record { left = panel_of x.left code vals; answer = x.answer; units = x.units }) q

  pub leaves-on : {r : Answered Panel} {x y : Answered Core} → r ≡ record { left = panel_of x.left code vals; answer = x.answer } → x ≡ y
      → r ≡ record { left = panel_of y.left code vals; answer = y.answer }
  leaves-on e q = e ∙ ap (λ (x : Answered Core). record { left = panel_of x.left code vals; answer = x.answer }) q
