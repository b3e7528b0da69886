-- Document 02: "If every call is lent the same area and nobody else writes it, the settings are those of the last record taken and not undone."
use Rattle.std.specs.Prelude.{◌≡◌, cond, List, [], ◌∷◌, ℕ}
use Rattle.orchestra_syntax.specs.Tree.{Instrument}
use Rattle.settings_records.specs.Claims.{Step, standing, AsStanding}
use Rattle.settings_records.specs.Claims as settings
use Rattle.player_model.specs.Calls.{Call, submit, burst, keyboard, cycle, change, undo, is_zero, Transition, trace}
use Rattle.panel_claims.specs.Fresh.{Setup}
use Rattle.panel_claims.specs.Claims.{panel, Given, fresh, area_by, panel_after}

-- the area that a call is lent is this one, as it stands; calls that are lent none say nothing
abbrev pub LentThis : List ℕ → Call → Type 0
LentThis area (submit d handed) = Unit {0}
LentThis area (burst bytes answers) = Unit {0}
LentThis area (keyboard bytes) = Unit {0}
LentThis area (cycle block) = Unit {0}
LentThis area (change lent handed) = lent ≡ area
LentThis area (undo lent) = lent ≡ area

-- a change or an undo, before those that come later
abbrev pub with_step : Call → List Step → List Step
with_step (submit d handed) later = later
with_step (burst bytes answers) later = later
with_step (keyboard bytes) later = later
with_step (cycle block) later = later
with_step (change lent handed) later = settings.change handed ∷ later
with_step (undo lent) later = settings.undo ∷ later

module _ {P : Type 0} where
  -- the area after a transition: as the call left it
  abbrev pub area_past : List ℕ → Transition P → Call → List ℕ
  area_past area m (submit d handed) = area
  area_past area m (burst bytes answers) = area
  area_past area m (keyboard bytes) = area
  area_past area m (cycle block) = area
  area_past area m (change lent handed) = m.after.buffers.settings
  area_past area m (undo lent) = m.after.buffers.settings

  -- every change and every undo is lent the same area, and nobody else writes it
  abbrev pub SameArea : List ℕ → List (Transition P) → Type 0
  SameArea area [] = Unit {0}
  SameArea area (m ∷ ms) = LentThis area m.call × SameArea (area_past area m m.call) ms

  -- the changes and undos that a list of transitions takes
  unfoldable pub steps_taken : List (Transition P) → List Step
  steps_taken [] = []
  steps_taken (m ∷ ms) = cond (is_zero m.after.answers) (with_step m.call (steps_taken ms)) (steps_taken ms)

-- after any list of calls on a fresh panel that are lent its area
unfoldable pub LastStanding : Type 0
LastStanding =
    (u : Setup) (is : List Instrument) → Given u is → (cs : List Call) → let ms = trace panel (fresh u) cs in
    SameArea (area_by u) ms → AsStanding (standing (u.first ∷ []) (steps_taken ms)) (panel_after u is cs).core.settings
