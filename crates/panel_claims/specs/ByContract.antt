-- What the contracts of the public calls of `panel` say, as a caller learns them (the kit's `Learnt`: of the arguments, the result and what was
-- lent), in the words of the claims. So the claims are about what a host is handed, and not about definitions beside it.
use Rattle.std.specs.Prelude.{◌≡◌, List, ℕ, Float}
use Rattle.player_model.specs.Calls.{stick, unit, keypad, text, Call, submit, burst, keyboard, cycle, change, undo, no_buffers, only_block, only_settings, After}
use Rattle.panel.specs.Display.{display_of}
use Rattle.panel.specs.State.{panel_of}
use Rattle.panel.specs.declared.Core.{Core}
use Rattle.panel.proofs.Core.load_score.Reads as core-load-score
use Rattle.panel.proofs.Core.receive_unit.Reads as core-receive-unit
use Rattle.panel.proofs.Core.enter_line.Reads as core-enter-line
use Rattle.panel.proofs.Core.load_text.Reads as core-load-text
use Rattle.panel.proofs.Core.receive_burst.Reads as core-receive-burst
use Rattle.panel.proofs.Core.play_keys.Reads as core-play-keys
use Rattle.panel.proofs.Core.change.Reads as core-change
use Rattle.panel.proofs.Core.undo.Reads as core-undo
use Rattle.panel.proofs.Core.cycle.Reads as core-cycle
use Rattle.panel.proofs.Core.missed_notes.Reads as core-missed-notes
use Rattle.panel.proofs.Core.waiting_lines.Reads as core-waiting-lines
use Rattle.panel.proofs.Core.waiting_messages.Reads as core-waiting-messages
use Rattle.panel.proofs.Core.sounding_notes.Reads as core-sounding-notes
use Rattle.panel.proofs.Core.has_ended.Reads as core-has-ended
use Rattle.panel.proofs.Core.position_in_ticks.Reads as core-position-in-ticks
use Rattle.panel.proofs.Core.settings_in_use.Reads as core-settings-in-use
use Rattle.panel.proofs.Core.records_in_use.Reads as core-records-in-use
use Rattle.panel.proofs.Panel.load_score.Reads as panel-load-score
use Rattle.panel.proofs.Panel.receive_unit.Reads as panel-receive-unit
use Rattle.panel.proofs.Panel.enter_line.Reads as panel-enter-line
use Rattle.panel.proofs.Panel.load_text.Reads as panel-load-text
use Rattle.panel.proofs.Panel.receive_burst.Reads as panel-receive-burst
use Rattle.panel.proofs.Panel.play_keys.Reads as panel-play-keys
use Rattle.panel.proofs.Panel.change.Reads as panel-change
use Rattle.panel.proofs.Panel.undo.Reads as panel-undo
use Rattle.panel.proofs.Panel.cycle.Reads as panel-cycle
use Rattle.panel.proofs.Panel.missed_notes.Reads as panel-missed-notes
use Rattle.panel.proofs.Panel.waiting_lines.Reads as panel-waiting-lines
use Rattle.panel.proofs.Panel.waiting_messages.Reads as panel-waiting-messages
use Rattle.panel.proofs.Panel.sounding_notes.Reads as panel-sounding-notes
use Rattle.panel.proofs.Panel.has_ended.Reads as panel-has-ended
use Rattle.panel.proofs.Panel.position_in_ticks.Reads as panel-position-in-ticks
use Rattle.panel.proofs.Panel.settings_in_use.Reads as panel-settings-in-use
use Rattle.panel.proofs.Panel.records_in_use.Reads as panel-records-in-use
use Rattle.panel.proofs.Panel.fresh.Reads as panel-fresh
use Rattle.panel.proofs.Panel.split.Reads as panel-split
use Rattle.panel_claims.specs.Fresh.{Setup}
use Rattle.panel_claims.specs.Claims.{with_answer, with_answers, core_after, after_of, fresh_by, area_by, answered_units}

-- whoever calls the function learns this of the arguments, the result and the arguments at the end
abbrev pub Tells : {K : Type 0} {A B C : K → Type 0} → ((κ : K) → A κ → B κ → C κ → Type 0) → ((κ : K) → A κ → B κ → C κ → Type 0) → Type 0
Tells {K} {A} {B} {C} learnt this = (κ : K) (a : A κ) (r : B κ) (e : C κ) → learnt κ a r e → this κ a r e

-- what a call leaves of a core, whatever code it is lent
abbrev pub Leaves : Core → Call → After Core → Type 0
Leaves c call after = (code : List ℕ) (vals : List Float) → core_after code vals c call ≡ after

pub record CoreByContract : Type 0 where
  pub load-score : Tells core-load-score.Learnt (λ κ a r e. Leaves a.0 (submit stick a.1.0.now) (with_answer r.left r.answer r.line no_buffers))
  pub receive-unit : Tells core-receive-unit.Learnt (λ κ a r e. Leaves a.0 (submit unit a.1.0.now) (with_answer r.left r.answer r.line no_buffers))
  pub enter-line : Tells core-enter-line.Learnt (λ κ a r e. Leaves a.0 (submit keypad a.1.0.now) (with_answer r.left r.answer r.line no_buffers))
  pub load-text : Tells core-load-text.Learnt (λ κ a r e. Leaves a.0 (submit text a.1.0.now) (with_answer r.left r.answer r.line no_buffers))
  pub receive-burst : Tells core-receive-burst.Learnt
      (λ κ a r e. Leaves a.0 (burst a.1.0.now a.1.1.0.now) (with_answers r.left r.answer r.units e.1.1.0.now)
      × (r.units ≡ answered_units a.0 a.1.0.now a.1.1.0.now))
  pub play-keys : Tells core-play-keys.Learnt (λ κ a r e. Leaves a.0 (keyboard a.1.0.now) (with_answer r.left r.answer 0 no_buffers))
  pub change : Tells core-change.Learnt
      (λ κ a r e. Leaves a.0 (change a.1.0.now a.1.1.0.now) (with_answer r.left r.answer 0 (only_settings e.1.0.now)))
  pub undo : Tells core-undo.Learnt (λ κ a r e. Leaves a.0 (undo a.1.0.now) (with_answer r.left r.answer 0 (only_settings a.1.0.now)))
  pub cycle : Tells core-cycle.Learnt
      (λ κ a r e. core_after a.1.0.now a.1.1.0.now a.0 (cycle a.1.1.1.0.now) ≡ with_answer r.left r.answer 0 (only_block e.1.1.1.0.now))
  pub missed-notes : Tells core-missed-notes.Learnt (λ κ a r e. r ≡ (display_of a.0).missed)
  pub waiting-lines : Tells core-waiting-lines.Learnt (λ κ a r e. r ≡ (display_of a.0).lines)
  pub waiting-messages : Tells core-waiting-messages.Learnt (λ κ a r e. r ≡ (display_of a.0).messages)
  pub sounding-notes : Tells core-sounding-notes.Learnt (λ κ a r e. r ≡ (display_of a.0).notes)
  pub has-ended : Tells core-has-ended.Learnt (λ κ a r e. r ≡ (display_of a.0).ended)
  pub position-in-ticks : Tells core-position-in-ticks.Learnt (λ κ a r e. r ≡ (display_of a.0).position)
  pub settings-in-use : Tells core-settings-in-use.Learnt (λ κ a r e. r ≡ a.0.settings.last)
  pub records-in-use : Tells core-records-in-use.Learnt (λ κ a r e. r ≡ a.0.settings.count)

pub record PanelByContract : Type 0 where
  pub load-score : Tells panel-load-score.Learnt (λ κ a r e. after_of a.0 (submit stick a.1.0.now) ≡ with_answer r.left r.answer r.line no_buffers)
  pub receive-unit : Tells panel-receive-unit.Learnt (λ κ a r e. after_of a.0 (submit unit a.1.0.now) ≡ with_answer r.left r.answer r.line no_buffers)
  pub enter-line : Tells panel-enter-line.Learnt (λ κ a r e. after_of a.0 (submit keypad a.1.0.now) ≡ with_answer r.left r.answer r.line no_buffers)
  pub load-text : Tells panel-load-text.Learnt (λ κ a r e. after_of a.0 (submit text a.1.0.now) ≡ with_answer r.left r.answer r.line no_buffers)
  pub receive-burst : Tells panel-receive-burst.Learnt
      (λ κ a r e. (after_of a.0 (burst a.1.0.now a.1.1.0.now) ≡ with_answers r.left r.answer r.units e.1.1.0.now)
      × (r.units ≡ answered_units a.0.core a.1.0.now a.1.1.0.now))
  pub play-keys : Tells panel-play-keys.Learnt (λ κ a r e. after_of a.0 (keyboard a.1.0.now) ≡ with_answer r.left r.answer 0 no_buffers)
  pub change : Tells panel-change.Learnt
      (λ κ a r e. after_of a.0 (change a.1.0.now a.1.1.0.now) ≡ with_answer r.left r.answer 0 (only_settings e.1.0.now))
  pub undo : Tells panel-undo.Learnt (λ κ a r e. after_of a.0 (undo a.1.0.now) ≡ with_answer r.left r.answer 0 (only_settings a.1.0.now))
  pub cycle : Tells panel-cycle.Learnt (λ κ a r e. after_of a.0 (cycle a.1.0.now) ≡ with_answer r.left r.answer 0 (only_block e.1.0.now))
  pub missed-notes : Tells panel-missed-notes.Learnt (λ κ a r e. r ≡ (display_of a.0.core).missed)
  pub waiting-lines : Tells panel-waiting-lines.Learnt (λ κ a r e. r ≡ (display_of a.0.core).lines)
  pub waiting-messages : Tells panel-waiting-messages.Learnt (λ κ a r e. r ≡ (display_of a.0.core).messages)
  pub sounding-notes : Tells panel-sounding-notes.Learnt (λ κ a r e. r ≡ (display_of a.0.core).notes)
  pub has-ended : Tells panel-has-ended.Learnt (λ κ a r e. r ≡ (display_of a.0.core).ended)
  pub position-in-ticks : Tells panel-position-in-ticks.Learnt (λ κ a r e. r ≡ (display_of a.0.core).position)
  pub settings-in-use : Tells panel-settings-in-use.Learnt (λ κ a r e. r ≡ a.0.core.settings.last)
  pub records-in-use : Tells panel-records-in-use.Learnt (λ κ a r e. r ≡ a.0.core.settings.count)
  pub fresh : Tells panel-fresh.Learnt
      (λ κ a r e. let u : Setup = record { orchestra = a.0.now; area = a.1.0.now; first = a.1.1.0.now; chosen = a.1.1.1.0 } in
      (r ≡ fresh_by u) × (e.1.0.now ≡ area_by u))
  pub split : Tells panel-split.Learnt (λ κ a r e. panel_of r.core r.code r.vals ≡ a.0)
