-- What a list of calls leaves by its history: a machine of its own, which learns nothing of the player but which lines, note messages, changes and undos it took.
use Rattle.std.specs.Prelude.{cond, List, [], ◌∷◌, ℕ, eqb}
use Rattle.settings_records.specs.declared.InUse.{InUse}
use Rattle.player_model.specs.Cycle.{Voices}
use Rattle.player_model.specs.PlayerState.{PlayerState, behind, with_messages, cycled, answer_of}
use Rattle.player_model.specs.Plain.{plain_start}
use Rattle.player_model.specs.Calls.{numbered, Transition, taken_in, messages_taken}
use Rattle.player_model.specs.Set.{in_force, starting_tempo, set_with}

-- the position at the start of the last cycle that answered 0
pub data Reached : Type 0 where
  nowhere : Reached
  at : ℕ → Reached

-- what is held by then, how far the last cycle was, and the settings in use
pub record History (S : Type 0) : Type 0 where
  pub holds : PlayerState S
  pub reached : Reached
  pub set : InUse

-- no line taken and no cycle run, after a fresh start with these settings
abbrev pub unbegun : {S : Type 0} → InUse → History S
unbegun k = record { holds = plain_start (starting_tempo k) []; reached = nowhere; set = k }

module _ {S : Type 0} (v : Voices S) (chosen : ℕ) where
  -- a cycle: it has no other effect than document 01's steps, and it answers 0 unless step 1 or an earlier end says 9
  abbrev pub with_cycle : History S → History S
  with_cycle h =
      record {
        holds = cycled v (in_force chosen h.set) h.holds;
        reached = cond (eqb (answer_of h.holds) 0) (at h.holds.plays.position) h.reached;
        set = h.set;
      }

  -- one transition more: the lines and note messages taken wait behind the others; a change or an undo that is taken sets what the next cycle goes
  -- by; a numbered cycle call is a cycle; nothing else has an effect
  abbrev pub with_transition : {P : Type 0} → History S → Transition P → History S
  with_transition h m =
      cond (numbered m.call) (with_cycle h)
      (record { holds = with_messages (messages_taken m) (behind (taken_in m) h.holds); reached = h.reached; set = set_with h.set m })

  unfoldable pub history_from : {P : Type 0} → History S → List (Transition P) → History S
  history_from h [] = h
  history_from h (m ∷ ms) = history_from (with_transition h m) ms

  abbrev pub history_of : {P : Type 0} → InUse → List (Transition P) → History S
  history_of k ms = history_from (unbegun k) ms
