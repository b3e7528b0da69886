-- A core's value: its state, its settings and its instruments. A panel is a core with its code and the numbers in it.
use Rattle.std.specs.Prelude.{List, ℕ, Float, take}
use Rattle.player_queue.specs.declared.Queue.{Queue}
use Rattle.player_model.specs.Cycle.{Voices}
use Rattle.settings_records.specs.declared.InUse.{InUse}
use Rattle.player_model.specs.PlayerState.{Settings, PlayerState}
use Rattle.midi_queue.specs.declared.MessageQueue.{MessageQueue}
use Rattle.voices_compiled.specs.Voices.{VoiceState, voices}
use Rattle.code_program.specs.declared.Instrument.{Instrument}
use Rattle.player_state.specs.Playing as playing
use Rattle.player_state.specs.declared.Settings.{Settings as Now}
use Rattle.player_state.specs.States as states
use Rattle.player_state.specs.declared.State.{State}
use Rattle.player_calls.specs.OnState as on_state
use Rattle.code_program.specs.declared.Program.{Program}
use Rattle.player_start.specs.declared.Start.{Start}
use Rattle.panel.specs.declared.Core.{Core}
use Rattle.panel.specs.declared.Panel.{Panel}
use Rattle.base_answer.specs.declared.AnsweredLine.{AnsweredLine}
use Rattle.base_answer.specs.declared.AnsweredUnits.{AnsweredUnits}
use Rattle.base_answer.specs.declared.Answered.{Answered}

-- ---- a core

-- the instruments of the accepted orchestra
abbrev pub instruments_of : Core → List Instrument
instruments_of c = take c.instruments.count c.instruments.table

-- what its notes do, by the code and the numbers that it is lent
abbrev pub voices_with : List ℕ → List Float → Core → Voices VoiceState
voices_with code vals c = voices (instruments_of c) code vals

-- what a cycle goes by, for settings in use and a chosen instrument
abbrev pub settings_now : InUse → ℕ → Now
settings_now k chosen = record { ceiling = k.last.ceiling; notes = k.last.notes; chosen = chosen }

abbrev pub settings_in : Core → Settings
settings_in c = playing.settings_in (settings_now c.settings c.chosen)

-- the core in another state: its settings, its chosen instrument and its instruments stay
abbrev pub in_state : Core → State → Core
in_state c s = record { state = s; settings = c.settings; chosen = c.chosen; instruments = c.instruments }

-- the core with other settings in use
abbrev pub in_settings : Core → InUse → Core
in_settings c k = record { state = c.state; settings = k; chosen = c.chosen; instruments = c.instruments }

-- ---- a panel: a core, with the code and the numbers that it is lent

abbrev pub panel_of : Core → List ℕ → List Float → Panel
panel_of c code vals = record { core = c; code = code; vals = vals }

abbrev pub program_of : Panel → Program
program_of p = record { table = p.core.instruments.table; count = p.core.instruments.count; code = p.code; vals = p.vals }

-- a program's instruments, and what their notes do
abbrev pub table_of : Program → List Instrument
table_of g = take g.count g.table

abbrev pub voices_of : Program → Voices VoiceState
voices_of g = voices (table_of g) g.code g.vals

-- what waits and what plays
abbrev pub player_state_of : Panel → PlayerState VoiceState
player_state_of p = states.player_state_of p.core.state

-- the panel with another core: its code stays
abbrev pub with_core : Panel → Core → Panel
with_core p c = panel_of c p.code p.vals

abbrev pub with_state : Panel → State → Panel
with_state p s = with_core p (in_state p.core s)

abbrev pub with_in_use : Panel → InUse → Panel
with_in_use p k = with_core p (in_settings p.core k)

-- the panel with other waiting lines
unfoldable pub with_queue : Panel → Queue → Panel
with_queue p q = with_state p (on_state.with_queue p.core.state q)

-- the panel with other waiting note messages
unfoldable pub with_messages : Panel → MessageQueue → Panel
with_messages p m = with_state p (on_state.with_messages p.core.state m)

-- the panel marked as ended
unfoldable pub ended_of : Panel → Panel
ended_of p =
    let s = p.core.state in
    with_state p (record { queue = s.queue; messages = s.messages; playing = states.stopped s.playing })

-- the panel that a fresh start gives
abbrev pub panel_at : Start → Panel
panel_at s =
    let g = s.program in
    panel_of (record { state = s.state; settings = s.settings; chosen = s.chosen; instruments = record { table = g.table; count = g.count } }) g.code g.vals

-- what a call on its core leaves of a panel
abbrev pub entrance_on : Panel → AnsweredLine Core → AnsweredLine Panel
entrance_on p r = record { left = with_core p r.left; answer = r.answer; line = r.line }

abbrev pub burst_on : Panel → AnsweredUnits Core → AnsweredUnits Panel
burst_on p r = record { left = with_core p r.left; answer = r.answer; units = r.units }

abbrev pub result_on : Panel → Answered Core → Answered Panel
result_on p r = record { left = with_core p r.left; answer = r.answer }
