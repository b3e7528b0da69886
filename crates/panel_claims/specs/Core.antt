-- What is promised of a panel in two: its core, and code and numbers that the host lends with each call, the panel's own or any others.
use Rattle.std.specs.Prelude.{◌≡◌, true, List, [], ◌∷◌, ℕ, Float}
use Rattle.orchestra_syntax.specs.Tree.{Instrument}
use Rattle.settings_records.specs.Form.{Valid}
use Rattle.player_model.specs.Lists.{All, each}
use Rattle.player_model.specs.Calls.{Call, numbered, is_zero, Player, Last, none, Transition, cycles_with, last_with, transition_of, trace, after_all}
use Rattle.player_model.specs.Condition3.{WithinCeiling}
use Rattle.panel.specs.Display.{display_of}
use Rattle.panel.specs.State.{panel_of}
use Rattle.panel.specs.declared.Panel.{Panel}
use Rattle.panel.specs.declared.Core.{Core}
use Rattle.panel_claims.specs.Fresh.{Setup}
use Rattle.panel_claims.specs.Claims.{core_after, counts_of, panel, AsEnded, Given, fresh, settings, display_by, past}

-- ---- the core as a player

-- a core that is lent this code and these numbers
abbrev pub core : List ℕ → List Float → Player Core
core code vals = record { after = core_after code vals; counts = counts_of }

-- ---- lent any code

-- a call, and the code and numbers that are lent with it
pub record LentCall : Type 0 where
  pub code : List ℕ
  pub vals : List Float
  pub call : Call

unfoldable pub lent_from : ℕ → Last → Core → List LentCall → List (Transition Core)
lent_from k z c [] = []
lent_from k z c (l ∷ ls) =
    let m = transition_of (core l.code l.vals) k z c l.call in m ∷ lent_from (cycles_with m) (last_with m) m.after.player ls

-- the transitions of a list of such calls on a fresh core
abbrev pub lent_trace : Core → List LentCall → List (Transition Core)
lent_trace c ls = lent_from 0 none c ls

-- a cycle that answers 0 goes by settings in range, of those that `settings_in_use` tells
abbrev pub SetInRange : Transition Core → Type 0
SetInRange m = numbered m.call ≡ true → is_zero m.after.answers ≡ true → Valid m.before.settings.last

-- For every core that a host can come by: from any fresh start, accepted or refused, by any list of calls, each lent any code and numbers, at every
-- call others if the host likes, no sample that a cycle gives lies above the ceiling or below its negative. Calls on a panel before it is put in
-- two are such calls, lent its own code (`CoreAsPanel`).
unfoldable pub CoreCeilingBinds : Type 0
CoreCeilingBinds =
    (u : Setup) (ls : List LentCall) → let ms = lent_trace (fresh u).core ls in
    All (λ (m : Transition Core). WithinCeiling (settings u ms) m × SetInRange m) ms

-- A core that has ended, by what it is told, stays as it is whatever is called and lent: each call is refused, and of a burst each unit.
unfoldable pub CoreStaysEnded : Type 0
CoreStaysEnded = (c : Core) → (display_of c).ended ≡ true → (ls : List LentCall) → All AsEnded (lent_trace c ls)

-- ---- lent the panel's own code

-- a transition of a panel, as one of its core
abbrev pub transition_on_core : Transition Panel → Transition Core
transition_on_core m =
    let a = m.after in
    record {
      call = m.call;
      cycles = m.cycles;
      last = m.last;
      before = m.before.core;
      after = record { player = a.player.core; answers = a.answers; buffers = a.buffers };
    }

abbrev pub lent_own : Panel → List Call → List LentCall
lent_own p cs = each (λ (c : Call). record { code = p.code; vals = p.vals; call = c }) cs

-- the same answers, blocks and areas at every call, and at the end core and code make the panel after the calls
pub record GoesAsPanel (p : Panel) (c : Core) (code : List ℕ) (vals : List Float) (cs : List Call) : Type 0 where
  pub transitions : lent_trace c (lent_own p cs) ≡ each transition_on_core (trace panel p cs)
  pub left : panel_of (after_all (core code vals) c cs) code vals ≡ after_all panel p cs

-- For every panel in two, as `Panel::split` gives it, and every list of calls: lent the panel's own code and numbers at every call, the core
-- goes as the panel does.
unfoldable pub CoreAsPanel : Type 0
CoreAsPanel =
    (p : Panel) (c : Core) (code : List ℕ) (vals : List Float) → panel_of c code vals ≡ p → (cs : List Call) → GoesAsPanel p c code vals cs

-- And what the display tells of the core of a fresh panel is what the history gives.
unfoldable pub CoreTold : Type 0
CoreTold =
    (u : Setup) (is : List Instrument) → Given u is →
    (c : Core) (code : List ℕ) (vals : List Float) → panel_of c code vals ≡ fresh u → (cs : List Call) →
    display_of (after_all (core code vals) c cs) ≡ display_by (past u is cs)
