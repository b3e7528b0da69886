-- The settings in force (M-107), by the calls: the records handed in and the areas lent of the changes and undos that are answered 0. Nothing is
-- read from the player.
use Rattle.std.specs.Prelude.{cond, List, [], ◌∷◌, ℕ, zero, suc, ◌+◌, ◌-◌, pos, Float}
use Rattle.std.specs.Float.{binary32}
use Rattle.std.specs.Float.Ieee.{of_int}
use Rattle.settings_records.specs.declared.InUse.{InUse}
use Rattle.settings_records.specs.inside.Reading.{found_in, records_in}
use Rattle.settings_records.specs.Changes.{in_use}
use Rattle.player_model.specs.PlayerState.{Settings, settings_of}
use Rattle.player_model.specs.Calls.{Call, submit, burst, keyboard, cycle, change, undo, numbered, is_zero, Transition}

-- what a change or an undo sets that is answered 0: what the record says that is handed in; what the record says that is then the last in use, as
-- its bytes stand in the area at that call
abbrev pub set_by : InUse → Call → InUse
set_by k (submit d handed) = k
set_by k (burst bytes area) = k
set_by k (keyboard bytes) = k
set_by k (cycle block) = k
set_by k (change area handed) = in_use (k.count + 1) (found_in handed).setting
set_by k (undo area) = in_use (k.count - 1) (records_in (k.count - 1) area).setting

-- what a cycle then goes by
abbrev pub in_force : ℕ → InUse → Settings
in_force chosen k = settings_of k.last.ceiling k.last.notes chosen

-- the tempo that a fresh start begins at
unfoldable pub starting_tempo : InUse → Float
starting_tempo k = of_int binary32 (pos k.last.tempo)

module _ {P : Type 0} where
  abbrev pub set_with : InUse → Transition P → InUse
  set_with k m = cond (is_zero m.after.answers) (set_by k m.call) k

  -- what is set when the cycle of a number is called, counted from these transitions on; behind the last one, what is set at their end
  unfoldable pub set_at : InUse → List (Transition P) → ℕ → InUse
  set_at k [] n = k
  set_at k (m ∷ ms) zero = cond (numbered m.call) k (set_at (set_with k m) ms zero)
  set_at k (m ∷ ms) (suc n) = cond (numbered m.call) (set_at k ms n) (set_at (set_with k m) ms (suc n))

  -- the settings of each cycle, for a fresh start with these settings and these transitions
  abbrev pub settings_by : ℕ → InUse → List (Transition P) → ℕ → Settings
  settings_by chosen k ms n = in_force chosen (set_at k ms n)
