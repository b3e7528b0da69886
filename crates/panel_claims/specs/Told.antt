-- What a host is told of the settings: `settings_in_use` gives `.settings .last` of a core, `records_in_use` its `.settings .count`
-- (`LastStanding` says which records these are). Here, when they act (M-107).
use Rattle.std.specs.Prelude.{◌≡◌, true, false, List}
use Rattle.orchestra_syntax.specs.Tree.{Instrument}
use Rattle.settings_records.specs.Changes.{in_use}
use Rattle.player_model.specs.Lists.{All}
use Rattle.player_model.specs.Calls.{Call, numbered, Transition, trace}
use Rattle.player_model.specs.Set.{in_force, starting_tempo}
use Rattle.panel.specs.State.{player_state_of}
use Rattle.panel.specs.declared.Panel.{Panel}
use Rattle.panel_claims.specs.Fresh.{Setup}
use Rattle.panel_claims.specs.Claims.{panel, Given, fresh, settings, panel_after}

-- "They act from the next cycle": the settings of each cycle, by the calls, which condition 3 and the ceiling go by, are those that the host is told
-- when it calls the cycle.
unfoldable pub ToldAct : Type 0
ToldAct =
    (u : Setup) (is : List Instrument) → Given u is → (cs : List Call) → let ms = trace panel (fresh u) cs in
    All (λ (m : Transition Panel). numbered m.call ≡ true → settings u ms m.cycles ≡ in_force u.chosen m.before.core.settings) ms

-- "the starting tempo only at a fresh start": until the first cycle the tempo is that of the first record, whatever is changed or undone.
unfoldable pub FirstTempo : Type 0
FirstTempo =
    (u : Setup) (is : List Instrument) (g : Given u is) (cs : List Call) → All (λ (c : Call). numbered c ≡ false) cs
    → (player_state_of (panel_after u is cs)).plays.tempo ≡ starting_tempo (in_use 1 g.set)
