-- The same of a panel in two: the feeder hands over to its core, and the host lends the code to the cycles alone.
use Rattle.std.specs.Prelude.{◌≡◌, List, ℕ, Float}
use Rattle.player_model.specs.Lists.{each}
use Rattle.player_model.specs.Calls.{none}
use Rattle.panel.specs.State.{panel_of}
use Rattle.panel.specs.declared.Panel.{Panel}
use Rattle.panel.specs.declared.Core.{Core}
use Rattle.panel_claims.specs.Claims.{panel}
use Rattle.panel_claims.specs.Core.{core, transition_on_core}
use Rattle.panel_feeder.specs.Feeding.{Feeds, FedAs}
use Rattle.panel_feeder.specs.declared.Fed.{Fed}
use Rattle.panel_piece_claims.specs.Playing.{Round, Seen, performance, played_to, feeder}

-- the feeder on a core that is lent this code and these numbers
abbrev pub core_feeder : List ℕ → List Float → List ℕ → ℕ → ℕ → Core → Feeds Core
core_feeder code vals area n at c =
    let f = feeder area n at (panel_of c code vals) in record { player = f.player.core; answer = f.answer; line = f.line; at = f.at }

-- That is what the contract of `panel_feeder::feed` says, whatever they are.
unfoldable pub FeedByContract : Type 0
FeedByContract =
    (c : Core) (code : List ℕ) (vals : List Float) (area : List ℕ) (n at : ℕ) (r : Fed) → FedAs c r (feeder area n at)
    → core_feeder code vals area n at c ≡ record { player = r.core; answer = r.answer; line = r.line; at = r.at }

-- what is seen of a panel, of its core
abbrev pub seen_on_core : Seen Panel → Seen Core
seen_on_core x = record { told = x.told; calls = each transition_on_core x.calls }

-- the same is seen in every round, and at the end core and code make the panel, at the same place of the order
pub record PlaysAsPanel (p : Panel) (c : Core) (code : List ℕ) (vals : List Float) (area : List ℕ) (n : ℕ) (rounds : List Round) : Type 0 where
  pub seen : performance (core code vals) (core_feeder code vals area n) 0 none c 0 rounds ≡ each seen_on_core (performance panel (feeder area n) 0 none p 0 rounds)
  pub left : panel_of (played_to (core code vals) (core_feeder code vals area n) c 0 rounds).player code vals ≡ (played_to panel (feeder area n) p 0 rounds).player
  pub place : (played_to (core code vals) (core_feeder code vals area n) c 0 rounds).at ≡ (played_to panel (feeder area n) p 0 rounds).at

-- For every panel in two and every score and list of rounds: lent the panel's own code and numbers, the core plays as the panel does.
unfoldable pub CoreFedAsPanel : Type 0
CoreFedAsPanel =
    (p : Panel) (c : Core) (code : List ℕ) (vals : List Float) → panel_of c code vals ≡ p → (area : List ℕ) (n : ℕ) (rounds : List Round)
    → PlaysAsPanel p c code vals area n rounds
