-- A cycle's mix has 320 samples, so that limiting it into a block of that length gives the cycle's samples, whatever the block held.
use mathlib.Core.Path.{◌≡◌, refl, ap, ◌∙◌}
use mathlib.Core.List.{List, [], ◌∷◌}
use Prim.Native.Nat.{ℕ, suc}
use native.Mathlib.Omega.{arith}
use lib.IntN.{ℤ}
use lib.Ieee.{Float, binary32, of_bits}
use lib.ListN.{length, replicate, length-replicate}
use Rattle.base_float32.specs.Limit.{sample_of}
use Rattle.engine_limiter.specs.Block as block
use Rattle.code_interpreter.specs.Passes.{sums, played}
use Rattle.player_model.specs.Lists.{each}
use Rattle.player_model.specs.Cycle.{samples, run_from, run_all, limited}
use Rattle.player_model.specs.Cycle as cycle
use Rattle.player_model.specs.PlayerState.{Settings, Due, PlayingState, rendered_of}
use Rattle.voices_compiled.specs.Voices.{VoiceState, voices, ran_mix_of}
use Rattle.code_program.specs.declared.Instrument.{Instrument}

module _ (table : List Instrument) (code : List ℕ) (vals : List Float) where
  length-sums : (ws : List ℕ) (mix f : List Float) → length (sums vals ws f mix).mix ≡ length mix
  unfolding sums
  length-sums ws [] f = refl
  length-sums ws (x ∷ xs) f = ap suc (length-sums ws xs _)

  length-one : (s : VoiceState) (mix : List Float) → length ((voices table code vals).run s mix).mix ≡ length mix
  unfolding voices ran_mix_of played
  length-one s mix = length-sums _ mix _

  length_run : (ns : List (cycle.Note VoiceState)) (mix : List Float) → length (run_from (voices table code vals) ns mix).mix ≡ length mix
  unfolding run_from
  length_run [] mix = refl
  length_run (n ∷ ns) mix = length_run ns ((voices table code vals).run n.state mix).mix ∙ length-one n.state mix

  pub length-mix : (s : Settings) (due : Due) (p : PlayingState VoiceState) → length (rendered_of (voices table code vals) s due p).mix ≡ samples
  unfolding rendered_of run_all
  length-mix s due p = length_run _ (replicate samples (of_bits binary32 0)) ∙ length-replicate samples (of_bits binary32 0)

pub whole-block : (ceiling : ℕ) (mix : List Float) (lent : List ℤ) → length mix ≡ length lent → block.limited ceiling mix lent ≡ limited ceiling mix
unfolding block.limited limited each
whole-block ceiling [] [] h = refl
whole-block ceiling [] (y ∷ ys) h = absurd (omega arith)
whole-block ceiling (x ∷ mix) [] h = absurd (omega arith)
whole-block ceiling (x ∷ mix) (y ∷ ys) h = ap (λ (l : List ℤ). sample_of x ceiling ∷ l) (whole-block ceiling mix ys (omega arith))
