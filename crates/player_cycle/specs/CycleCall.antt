-- A cycle as a call: what it leaves of the state and of the lent block, for every state and every block.
use Rattle.std.specs.Prelude.{cond, List, ℕ, ℤ, length, eqb}
use Rattle.base_answer.specs.Numbers.{is_taken}
use Rattle.base_answer.specs.declared.Answer.TheVariants.{Taken, Ended, BlockLength}
use Rattle.player_model.specs.Cycle.{Voices, samples}
use Rattle.player_model.specs.PlayerState.{Settings, due_of, block_of}
use Rattle.voices_compiled.specs.Voices.{VoiceState}
use Rattle.player_state.specs.States.{player_state_of, ends_now, stopped}
use Rattle.player_state.specs.declared.State.{State}
use Rattle.base_answer.specs.declared.Answered.{Answered}
use Rattle.player_cycle.specs.OneCycle.{played_of}

-- a cycle: 10, then 9, then steps 2 to 8
unfoldable pub cycled_of : Voices VoiceState → Settings → State → ℕ → Answered State
cycled_of v x s lent =
    cond (eqb lent samples)
    (cond s.playing.ended (record { left = s; answer = Ended })
    (cond (ends_now s) (record { left = record { queue = s.queue; messages = s.messages; playing = stopped s.playing }; answer = Ended })
    (record { left = played_of v x s; answer = Taken })))
    (record { left = s; answer = BlockLength })

-- the lent block afterwards: the cycle's samples where it answers 0, else as it was
unfoldable pub block_left : Voices VoiceState → Settings → State → List ℤ → List ℤ
block_left v x s block = cond (is_taken (cycled_of v x s (length block)).answer) (block_of v x (due_of (player_state_of s)) (player_state_of s).plays) block
