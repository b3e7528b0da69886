-- One cycle, steps 1 to 8, on the state that it changes.
use Rattle.std.specs.Prelude.{cond, List, ℤ}
use Rattle.engine_limiter.specs.Block.{limited}
use Rattle.player_model.specs.Cycle.{Voices}
use Rattle.player_model.specs.PlayerState.{Settings, due_of, rendered_of}
use Rattle.voices_compiled.specs.Voices.{VoiceState}
use Rattle.player_state.specs.Playing.{playing_state_of}
use Rattle.player_steps.specs.Steps.{advanced}
use Rattle.player_state.specs.States.{player_state_of, ends_now, stopped, queue_after, used_of}
use Rattle.player_state.specs.declared.State.{State}

-- steps 2 to 8
unfoldable pub played_of : Voices VoiceState → Settings → State → State
played_of v s x =
    record {
      queue = queue_after x.playing.position x.queue;
      messages = used_of x.messages;
      playing = advanced v s (due_of (player_state_of x)) x.playing;
    }

-- ---- step 1, then the others
unfoldable pub state_after : Voices VoiceState → Settings → State → State
state_after v s x = cond (ends_now x) (record { queue = x.queue; messages = x.messages; playing = stopped x.playing }) (played_of v s x)

-- the lent block afterwards: as it was where the piece ends, else the limited samples
unfoldable pub block_after : Voices VoiceState → Settings → State → List ℤ → List ℤ
block_after v s x lent = cond (ends_now x) lent (limited s.ceiling (rendered_of v s (due_of (player_state_of x)) (playing_state_of x.playing)).mix lent)
