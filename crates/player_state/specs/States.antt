-- What the state holds, and what a cycle does with it beside its steps.
use Rattle.std.specs.Prelude.{Bool, true, false, not, ◌&&◌, List, ℕ, ◌+◌, min, ltb, eqb, Float, length, replicate}
use Rattle.std.specs.Float.{binary32}
use Rattle.std.specs.Float.Ieee.{of_bits}
use Rattle.base_timebase.specs.Time.{cycle_in}
use Rattle.player_model.specs.Lists.{over}
use Rattle.player_model.specs.Cycle.{samples, position_limit}
use Rattle.player_model.specs.PlayerState.{PlayerState, later_than, due_of, ends_by}
use Rattle.player_queue.specs.Waiting.{any_due}
use Rattle.player_queue.specs.Admission.{most_lines, waiting_in}
use Rattle.player_queue.specs.declared.Queue.{Queue}
use Rattle.midi_queue.specs.Keyboard.{messages_in}
use Rattle.midi_queue.specs.declared.MessageQueue.{MessageQueue}
use Rattle.voices_compiled.specs.Voices.{VoiceState}
use Rattle.player_state.specs.Playing.{playing_state_of}
use Rattle.player_state.specs.declared.Playing.{Playing}
use Rattle.player_state.specs.declared.State.{State}

-- what waits and what plays, as lists
abbrev pub player_state_of : State → PlayerState VoiceState
player_state_of s = record { waits = waiting_in s.queue; messages = messages_in s.messages; plays = playing_state_of s.playing }

abbrev pub ends_now : State → Bool
ends_now s = ends_by (due_of (player_state_of s)) (playing_state_of s.playing)

-- what plays, marked as ended
unfoldable pub stopped : Playing → Playing
stopped p = record { notes = p.notes; position = p.position; tempo = p.tempo; missed = p.missed; ended = true }

-- the lines that are not due stay, and a cycle has run at this position
unfoldable pub queue_after : ℕ → Queue → Queue
queue_after position q =
    let later = later_than position (waiting_in q) in
    record { lines = over later q.lines; count = length later; ran = true; last = position }

-- note messages that have acted wait no more
abbrev pub used_of : MessageQueue → MessageQueue
used_of keys = record { list = keys.list; count = 0 }

-- ---- an idle cycle: no line is due, no note message waits and no note sounds

unfoldable pub is_idle_now : State → Bool
is_idle_now x =
    not (ltb position_limit x.playing.position) && eqb x.playing.notes.count 0 && eqb x.messages.count 0
    && not (any_due x.playing.position (waiting_in x.queue))

-- the clock goes on, and nothing else
unfoldable pub after_idle : State → State
after_idle x =
    let p = x.playing in
    record {
      queue = record { lines = x.queue.lines; count = min x.queue.count most_lines; ran = true; last = p.position };
      messages = x.messages;
      playing = record { notes = p.notes; position = p.position + cycle_in p.tempo; tempo = p.tempo; missed = p.missed; ended = false };
    }

-- a mix that nothing adds to
unfoldable pub silence : List Float
silence = replicate samples (of_bits binary32 0)
