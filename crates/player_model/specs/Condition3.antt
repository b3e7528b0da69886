-- Document 01's condition 3, as facts about each transition of a list of calls.
use Rattle.std.specs.Prelude.{◌≡◌, true, List, ℕ, ◌<◌, Float}
use Rattle.base_float32.specs.Limit.{Within}
use Rattle.base_timebase.specs.Time.{ticks_in}
use Rattle.score_line.specs.declared.When.{When}
use Rattle.score_line.specs.declared.When.TheVariants.{Timed, Untimed}
use Rattle.score_line.specs.declared.Line.{Line}
use Rattle.player_model.specs.Lists.{All}
use Rattle.player_model.specs.Cycle.{Voices}
use Rattle.player_model.specs.PlayerState.{Settings}
use Rattle.player_model.specs.Plain.{plain_at, answer_at, block_at}
use Rattle.settings_records.specs.declared.InUse.{InUse}
use Rattle.player_model.specs.Calls.{Call, submit, burst, keyboard, cycle, change, undo, Player, numbered, is_zero, one, Last, none, latest, Transition, taken_in, cycles_with, all_taken, trace}
use Rattle.player_model.specs.Set.{starting_tempo, settings_by}

abbrev pub timed : When → Type 0
timed (Timed late t) = Unit {0}
timed Untimed = ⊥

-- timed, with ticks above a position
abbrev pub above : ℕ → When → Type 0
above position (Timed late t) = position < ticks_in t
above position Untimed = ⊥

module _ {P S : Type 0} (e : Player P) (v : Voices S) (start : Float) (settings : ℕ → Settings) (ls : List Line) where
  -- Timed and in time: no cycle had answered 0 when the line came, or its ticks are above the plain player's position at the start
  -- of the last cycle that had answered 0 by then. The plain player is given the lines ls.
  abbrev pub in_time : Last → Line → Type 0
  in_time none l = timed l.when
  in_time (latest z) l = above (plain_at v start settings ls z).plays.position l.when

  -- every line that was taken at a transition is
  abbrev pub InTime : Transition P → Type 0
  InTime m = All (in_time m.last) (taken_in m)

  -- a numbered cycle call gives the plain player's answer of its number and, where it is 0, leaves its block; after each call of any
  -- kind the counts are the plain player's after as many cycles
  pub record AsPlain (m : Transition P) : Type 0 where
    pub answer : numbered m.call ≡ true → m.after.answers ≡ one (answer_at v start settings ls m.cycles) 0
    pub block : numbered m.call ≡ true → is_zero m.after.answers ≡ true → m.after.buffers.block ≡ block_at v start settings ls m.cycles
    pub counts : e.counts m.after.player ≡ (plain_at v start settings ls (cycles_with m)).plays.counts

abbrev pub NotKeyboard : Call → Type 0
NotKeyboard (submit d handed) = Unit {0}
NotKeyboard (burst bytes area) = Unit {0}
NotKeyboard (keyboard bytes) = ⊥
NotKeyboard (cycle block) = Unit {0}
NotKeyboard (change area handed) = Unit {0}
NotKeyboard (undo area) = Unit {0}

-- The first half, for a player p at a fresh start with these settings: for any list of calls, none of them at the keyboard, if every line taken is
-- timed and in time, each call agrees with the plain player that is given the lines taken, and the same settings at the same cycles.
unfoldable pub PlainAlike : {P S : Type 0} → Player P → Voices S → ℕ → InUse → P → Type 0
PlainAlike e v chosen k p =
    (cs : List Call) → All NotKeyboard cs → let ms = trace e p cs in
    let ls = all_taken ms in
    let settings = settings_by chosen k ms in
    All (InTime e v (starting_tempo k) settings ls) ms → All (AsPlain e v (starting_tempo k) settings ls) ms

-- The second half, at a transition: a block that a call leaves with the answer 0 is within the ceiling of its cycle.
abbrev pub WithinCeiling : {P : Type 0} → (ℕ → Settings) → Transition P → Type 0
WithinCeiling settings m = is_zero m.after.answers ≡ true → All (Within (settings m.cycles).ceiling) m.after.buffers.block
