-- A piece played by the feeder's own calls: `prepare` once, and before each cycle `feed`.
use Rattle.std.specs.Prelude.{◌≡◌, false, List, [], ◌∷◌, ◌++◌, ℕ, ◌≤◌, ◌<◌, ◌^◌, ℤ, Float, length, drop, get_or}
use Rattle.base_answer.specs.Numbers.{number_of}
use Rattle.base_answer.specs.declared.Answer.{Answer}
use Rattle.base_answer.specs.declared.Answer.TheVariants.{Taken}
use Rattle.score_line.specs.declared.Line.{Line}
use Rattle.score_writer.specs.Slots.{area_lines}
use Rattle.orchestra_syntax.specs.Tree.{Instrument}
use Rattle.voices_source.specs.Voices.{written_voices}
use Rattle.player_model.specs.Lists.{All}
use Rattle.player_model.specs.Cycle.{Voices, samples}
use Rattle.player_model.specs.PlayerState.{Settings, due_of}
use Rattle.player_model.specs.Plain.{plain_at}
use Rattle.player_model.specs.Calls.{Call, submit, burst, keyboard, cycle, change, undo, Player, Last, none, Transition, cycles_with, last_with, transition_of, trace_from, after_all}
use Rattle.player_model.specs.Set.{starting_tempo}
use Rattle.player_model.specs.Condition3.{AsPlain}
use Rattle.panel.specs.declared.Panel.{Panel}
use Rattle.panel_claims.specs.Verdict.{most_lines}
use Rattle.panel_claims.specs.Fresh.{Setup}
use Rattle.panel_claims.specs.Claims.{panel, Given, first_in_use, fresh, settings}
use Rattle.panel_feeder.specs.Order.{number_in, order_of}
use Rattle.panel_feeder.specs.Judging.{prepared_of}
use Rattle.panel_feeder.specs.Feeding.{Feeds, fed_of}

-- ---- a piece

abbrev pub SetsOnly : Call → Type 0
SetsOnly (submit d handed) = ⊥
SetsOnly (burst bytes area) = ⊥
SetsOnly (keyboard bytes) = ⊥
SetsOnly (cycle block) = ⊥
SetsOnly (change area handed) = Unit {0}
SetsOnly (undo area) = Unit {0}

-- one cycle of a piece: changes and undos before it, and the block that it is lent
pub record Round : Type 0 where
  pub before : List Call
  pub block : List ℤ
  pub sets_only : All SetsOnly before
  pub long : length block ≡ samples

-- what is seen of it: the feeder's answer, and the transitions of the changes, the undos and the cycle
pub record Seen (P : Type 0) : Type 0 where
  pub told : Answer
  pub calls : List (Transition P)

-- where a piece has come to: the player, and the place of the next line in the order
pub record PlayedTo (P : Type 0) : Type 0 where
  pub player : P
  pub at : ℕ

module _ {P : Type 0} (e : Player P) (feed : ℕ → P → Feeds P) where
  -- in each round the changes and undos, the feeder from the place that it left, and the cycle
  unfoldable pub performance : ℕ → Last → P → ℕ → List Round → List (Seen P)
  performance k z p at [] = []
  performance k z p at (r ∷ rs) =
      let f = feed at (after_all e p r.before) in
      let m = transition_of e k z f.player (cycle r.block) in
      record { told = f.answer; calls = trace_from e k z p r.before ++ (m ∷ []) } ∷ performance (cycles_with m) (last_with m) m.after.player f.at rs

  unfoldable pub played_to : P → ℕ → List Round → PlayedTo P
  played_to p at [] = record { player = p; at = at }
  played_to p at (r ∷ rs) =
      let f = feed at (after_all e p r.before) in
      played_to (e.after f.player (cycle r.block)).player f.at rs

-- all its calls but the feeder's
unfoldable pub calls_in : {P : Type 0} → List (Seen P) → List (Transition P)
calls_in [] = []
calls_in (x ∷ xs) = x.calls ++ calls_in xs

-- ---- what is promised

-- No more than 64 lines are due in cycle k of the plain player, if the piece goes on till then. This is exactly when no more than 64 need to wait
-- before it: all that a cycle uses wait.
abbrev pub FewDue : {S : Type 0} → Voices S → Float → (ℕ → Settings) → List Line → ℕ → Type 0
FewDue v start settings ls k = (plain_at v start settings ls k).plays.ended ≡ false → length (due_of (plain_at v start settings ls k)).lines ≤ most_lines

-- in the first n cycles
abbrev pub NeverTooMany : {S : Type 0} → Voices S → Float → (ℕ → Settings) → List Line → ℕ → Type 0
NeverTooMany v start settings ls n = (k : ℕ) → k < n → FewDue v start settings ls k

-- a fresh panel, an accepted orchestra's, and an area of 32-bit words whose first n slots the feeder has put in order
pub record Piece (u : Setup) (is : List Instrument) (area : List ℕ) (n : ℕ) : Type 0 where
  pub given : Given u is
  pub words : (j : ℕ) → get_or area j 0 < 2 ^ 32
  pub places : ℕ
  pub room : ℕ
  pub prepared : (prepared_of area n places room (fresh u)).answer ≡ Taken

abbrev pub feeder : List ℕ → ℕ → ℕ → Panel → Feeds Panel
feeder area n at p = fed_of area (order_of area n) at p

abbrev pub seen_of : Setup → List ℕ → ℕ → List Round → List (Seen Panel)
seen_of u area n rounds = performance panel (feeder area n) 0 none (fresh u) 0 rounds

-- the settings of each cycle, by the changes and undos among the calls
abbrev pub settings_in : Setup → List ℕ → ℕ → List Round → ℕ → Settings
settings_in u area n rounds = settings u (calls_in (seen_of u area n rounds))

-- For every such piece, whatever is changed and undone meanwhile: if no more than 64 lines are due in one cycle, the feeder always answers 0, and
-- the answers, blocks and counts are those of the plain player that is given the lines in the area's order and the same settings at the same cycles.
unfoldable pub FedByCode : Type 0
FedByCode =
    (u : Setup) (is : List Instrument) (area : List ℕ) (n : ℕ) → Piece u is area n → (rounds : List Round) →
    let seen = seen_of u area n rounds in
    let set = settings_in u area n rounds in
    let score = area_lines area n 0 in
    NeverTooMany (written_voices is) (starting_tempo (first_in_use u)) set score (length rounds)
    → All (λ (x : Seen Panel). x.told ≡ Taken) seen × All (AsPlain panel (written_voices is) (starting_tempo (first_in_use u)) set score) (calls_in seen)

-- ---- too many at once

-- Where more than 64 lines are due in one cycle, the feeder answers 8 before that cycle, with the number of the first line that did not fit: the
-- 65th from its place in the order. Up to there all is as above.
unfoldable pub TooManyTold : Type 0
TooManyTold =
    (u : Setup) (is : List Instrument) (area : List ℕ) (n : ℕ) → Piece u is area n → (rounds : List Round) →
    let set = settings_in u area n rounds in
    let score = area_lines area n 0 in
    NeverTooMany (written_voices is) (starting_tempo (first_in_use u)) set score (length rounds) →
    let now = plain_at (written_voices is) (starting_tempo (first_in_use u)) set score (length rounds) in
    now.plays.ended ≡ false → most_lines < length (due_of now).lines →
    let r = played_to panel (feeder area n) (fresh u) 0 rounds in
    let f = feeder area n r.at r.player in
    (number_of f.answer ≡ 8) × (f.line ≡ number_in (get_or (drop r.at (order_of area n)) most_lines 0))
