-- What the feeder hands over before a cycle.
use Rattle.std.specs.Prelude.{◌≡◌, Bool, true, false, ◌&&◌, cond, List, [], ◌∷◌, ℕ, ◌+◌, leb, ltb, Float, length, drop, get_or}
use Rattle.base_answer.specs.Numbers.{is_taken}
use Rattle.base_answer.specs.declared.Answer.{Answer}
use Rattle.base_answer.specs.declared.Answer.TheVariants.{Taken}
use Rattle.score_line_writer.specs.Writing.{line_words}
use Rattle.player_model.specs.Calls.{keypad}
use Rattle.panel.specs.State.{player_state_of, panel_of, with_core}
use Rattle.panel.specs.declared.Panel.{Panel}
use Rattle.panel.specs.declared.Core.{Core}
use Rattle.panel.specs.Calls.{submit_of}
use Rattle.panel_feeder.specs.Order.{number_in, ticks_in_rank, line_in}
use Rattle.panel_feeder.specs.declared.Handed.{Handed}
use Rattle.panel_feeder.specs.declared.Fed.{Fed}

-- ---- one line of the order

-- what it leaves: the panel, the answer, and whether the next line is looked at
pub record PanelHanded : Type 0 where
  pub panel : Panel
  pub answer : Answer
  pub more : Bool

-- a line whose ticks are at most the position goes in at the keypad's entrance; any other stays back
unfoldable pub handed_of : List ℕ → ℕ → ℕ → Panel → PanelHanded
handed_of area position rank p =
    cond (leb (ticks_in_rank rank) position)
    (let r = submit_of p.core keypad (line_words (line_in area (number_in rank))) in record { panel = with_core p r.left; answer = r.answer; more = is_taken r.answer })
    (record { panel = p; answer = Taken; more = false })

-- ---- all lines that are due

-- what feeding leaves of a player: the answer, the number of the line that a refusal is about, and the place of the next line in the order
pub record Feeds (P : Type 0) : Type 0 where
  pub player : P
  pub answer : Answer
  pub line : ℕ
  pub at : ℕ

-- the lines of the order from a place on, up to the first that is not due or is refused
unfoldable pub fed_from : List ℕ → ℕ → Panel → ℕ → List ℕ → Feeds Panel
fed_from area position p at [] = record { player = p; answer = Taken; line = 0; at = at }
fed_from area position p at (rank ∷ ranks) =
    let h = handed_of area position rank p in
    cond h.more (fed_from area position h.panel (at + 1) ranks)
    (record { player = h.panel; answer = h.answer; line = cond (is_taken h.answer) 0 (number_in rank); at = at })

abbrev pub fed_from_order : List ℕ → List ℕ → ℕ → ℕ → Panel → Feeds Panel
fed_from_order area order position at p = fed_from area position p at (drop at order)

-- by the panel's own position; after the end nothing is handed over
unfoldable pub fed_of : List ℕ → List ℕ → ℕ → Panel → Feeds Panel
fed_of area order at p =
    cond (player_state_of p).plays.ended (record { player = p; answer = Taken; line = 0; at = at })
    (fed_from_order area order (player_state_of p).plays.position at p)

-- ---- whether there is anything to do

-- the next line of the order is due at a position
unfoldable pub next_due : List ℕ → ℕ → ℕ → Bool
next_due order at position = ltb at (length order) && leb (ticks_in_rank (get_or order at 0)) position

-- where it is not, nothing is handed over and nothing changes: a host need not ask
unfoldable pub NothingDue : Type 0
NothingDue =
    (area order : List ℕ) (at : ℕ) (p : Panel) → next_due order at (player_state_of p).plays.position ≡ false
    → fed_of area order at p ≡ record { player = p; answer = Taken; line = 0; at = at }

-- ---- the same of a core, whatever the code is

abbrev pub HandedAs : Core → Handed → (Panel → PanelHanded) → Type 0
HandedAs c r f = (code : List ℕ) (vals : List Float) → record { panel = panel_of r.core code vals; answer = r.answer; more = r.more } ≡ f (panel_of c code vals)

abbrev pub FedAs : Core → Fed → (Panel → Feeds Panel) → Type 0
FedAs c r f = (code : List ℕ) (vals : List Float) → record { player = panel_of r.core code vals; answer = r.answer; line = r.line; at = r.at } ≡ f (panel_of c code vals)
