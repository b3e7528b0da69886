-- What each call of a core gives, for every core and every input, and what a fresh start gives.
use Rattle.std.specs.Prelude.{Bool, cond, List, ℕ, ℤ, Float}
use Rattle.score_reader.specs.Score.{Score}
use Rattle.score_bursts.specs.inside.Reading.{burst_of}
use Rattle.base_answer.specs.declared.Answer.TheVariants.{Ended}
use Rattle.settings_records.specs.Changes as records
use Rattle.settings_records.specs.declared.InUse.{InUse}
use Rattle.base_answer.specs.declared.Answered.{Answered}
use Rattle.player_model.specs.Calls.{Entrance, must_be_timed, reads}
use Rattle.entrance_burst.specs.Singly.{area_in as burst_area}
use Rattle.player_calls.specs.OnState as on_state
use Rattle.player_cycle.specs.CycleCall.{cycled_of, block_left}
use Rattle.player_calls.specs.OnState.{burst_submitted_of, keyboard_call_of}
use Rattle.panel.specs.State.{instruments_of, voices_with, settings_in, in_state, in_settings, panel_at}
use Rattle.panel.specs.declared.Core.{Core}
use Rattle.player_start.specs.Starting.{starting_of, area_started}
use Rattle.base_answer.specs.declared.AnsweredLine.{AnsweredLine}
use Rattle.base_answer.specs.declared.AnsweredUnits.{AnsweredUnits}
use Rattle.panel.specs.declared.Panel.{Panel}

-- a fresh start
unfoldable pub fresh_of : List ℕ → List ℕ → List ℕ → ℕ → Answered Panel
fresh_of orchestra area first chosen =
    let s = starting_of orchestra area first chosen in
    record { left = panel_at s; answer = s.answer }

-- the lent area afterwards
abbrev pub area_fresh : List ℕ → List ℕ → List ℕ → ℕ → List ℕ
area_fresh orchestra area first chosen = area_started orchestra area first chosen

-- ---- a call on a core is the call on its state, or on its settings: nothing else of the core changes

-- what was read goes in, all of it or none
unfoldable pub submitted_of : Core → Bool → Score → AnsweredLine Core
submitted_of c timed s =
    let r = on_state.submitted_of (instruments_of c) c.state timed s in
    record { left = in_state c r.left; answer = r.answer; line = r.line }

-- bytes or numbers at an entrance
unfoldable pub submit_of : Core → Entrance → List ℕ → AnsweredLine Core
submit_of c d handed = submitted_of c (must_be_timed d) (reads d handed)

-- a burst's units, as if they came singly
unfoldable pub receive_of : Core → List ℕ → ℕ → AnsweredUnits Core
receive_of c bytes places =
    let r = burst_submitted_of (instruments_of c) c.state places (burst_of bytes) in
    record { left = in_state c r.left; answer = r.answer; units = r.units }

-- the lent answer area afterwards
unfoldable pub area_after : Core → List ℕ → List ℕ → List ℕ
area_after c bytes area = burst_area c.state.playing.ended (instruments_of c) c.state.queue area (burst_of bytes)

-- bytes at the keyboard
unfoldable pub play_keys_of : Core → List ℕ → Answered Core
play_keys_of c bytes =
    let r = keyboard_call_of c.state bytes in
    record { left = in_state c r.left; answer = r.answer }

-- a change and an undo: 9, then the checks of the area and the records
unfoldable pub changed_in : Bool → InUse → List ℕ → List ℕ → Answered InUse
changed_in ended k area handed = cond ended (records.changed k Ended) (records.change_of k area handed)

unfoldable pub area_in : Bool → InUse → List ℕ → List ℕ → List ℕ
area_in ended k area handed = cond ended area (records.area_changed k.count area handed)

unfoldable pub undone_in : Bool → InUse → List ℕ → Answered InUse
undone_in ended k area = cond ended (records.changed k Ended) (records.undo_of k area)

unfoldable pub change_of : Core → List ℕ → List ℕ → Answered Core
change_of c area handed =
    let r = changed_in c.state.playing.ended c.settings area handed in
    record { left = in_settings c r.left; answer = r.answer }

-- the lent area afterwards
abbrev pub area_changed : Core → List ℕ → List ℕ → List ℕ
area_changed c area handed = area_in c.state.playing.ended c.settings area handed

unfoldable pub undo_of : Core → List ℕ → Answered Core
undo_of c area =
    let r = undone_in c.state.playing.ended c.settings area in
    record { left = in_settings c r.left; answer = r.answer }

-- a cycle, by the code and the numbers that it is lent
unfoldable pub cycle_of : List ℕ → List Float → Core → ℕ → Answered Core
cycle_of code vals c lent =
    let r = cycled_of (voices_with code vals c) (settings_in c) c.state lent in
    record { left = in_state c r.left; answer = r.answer }

-- the lent block afterwards
unfoldable pub block_after : List ℕ → List Float → Core → List ℤ → List ℤ
block_after code vals c block = block_left (voices_with code vals c) (settings_in c) c.state block
