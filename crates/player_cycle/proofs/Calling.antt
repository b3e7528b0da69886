-- A cycle as a call: one law for each way through it, and the lent block.
use mathlib.Core.Path.{◌≡◌, refl, sym, ap, ◌∙◌}
use mathlib.Core.Bool.{Bool, true, false, cond}
use mathlib.Core.List.{List}
use Prim.Native.Nat.{ℕ}
use lib.IntN.{ℤ}
use lib.Ieee.{Float}
use lib.ListN.{length}
use borrow.Author.Tests.{eq-eqb, ne_eqb}
use Rattle.base_answer.specs.Numbers.{is_taken}
use Rattle.base_answer.specs.declared.Answer.{Answer}
use Rattle.base_answer.specs.declared.Answer.TheVariants.{Taken, Ended, BlockLength}
use Rattle.player_model.specs.Cycle.{Voices}
use Rattle.player_model.specs.PlayerState.{settings_of, due_of, rendered_of, block_of}
use Rattle.player_model.proofs.Lists.{cond-true, cond-false}
use Rattle.voices_compiled.specs.Voices.{VoiceState, voices}
use Rattle.code_program.specs.declared.Instrument.{Instrument}
use Rattle.player_state.specs.States.{player_state_of}
use Rattle.player_state.specs.declared.State.{State}
use Rattle.base_answer.specs.declared.Answered.{Answered}
use Rattle.player_cycle.specs.OneCycle as one_cycle
use Rattle.player_cycle.specs.CycleCall.{cycled_of, block_left}
use Rattle.player_cycle.proofs.Stepping.{ended-law, has-stopped, has-played}
use Rattle.player_cycle.proofs.Samples.{length-mix, whole-block}

module _ (v : Voices VoiceState) (ceiling most chosen : ℕ) (s : State) (n : ℕ) where
  pub cycle-off : (n ≡ 320 → ⊥) → (x : Answered State) → x ≡ record { left = s; answer = BlockLength } → x ≡ cycled_of v (settings_of ceiling most chosen) s n
  unfolding cycled_of
  cycle-off h x e = e ∙ sym (cond-false _ _ (ne_eqb n 320 h))

  pub cycle-over : n ≡ 320 → s.playing.ended ≡ true → (x : Answered State) → x ≡ record { left = s; answer = Ended } → x ≡ cycled_of v (settings_of ceiling most chosen) s n
  unfolding cycled_of
  cycle-over h o x e = e ∙ sym (cond-true _ _ (eq-eqb n 320 h) ∙ cond-true _ _ o)

  module _ (h : n ≡ 320) (o : s.playing.ended ≡ false) (next : State) (is : next ≡ one_cycle.state_after v (settings_of ceiling most chosen) s) where
    pub cycle-ran : (a : Answer) → a ≡ cond next.playing.ended Ended Taken → record { left = next; answer = a } ≡ cycled_of v (settings_of ceiling most chosen) s n
    unfolding cycled_of
    cycle-ran a e = go next.playing.ended refl
      where
        go : (b : Bool) → next.playing.ended ≡ b → record { left = next; answer = a } ≡ cycled_of v (settings_of ceiling most chosen) s n
        go true t =
            (λ i. record { left = has-stopped _ _ _ _ _ next is t i; answer = (e ∙ cond-true _ _ t) i })
            ∙ sym (cond-true _ _ (eq-eqb n 320 h) ∙ cond-false _ _ o ∙ cond-true _ _ (ended-law _ _ _ _ _ next is ∙ t))
        go false t =
            (λ i. record { left = has-played _ _ _ _ _ next is t i; answer = (e ∙ cond-false _ _ t) i })
            ∙ sym (cond-true _ _ (eq-eqb n 320 h) ∙ cond-false _ _ o ∙ cond-false _ _ (ended-law _ _ _ _ _ next is ∙ t))

-- ---- the lent block

module _ (table : List Instrument) (code : List ℕ) (vals : List Float) (ceiling most chosen : ℕ) (s : State) (lent : List ℤ)
    (x : Answered State) (q : x ≡ cycled_of (voices table code vals) (settings_of ceiling most chosen) s (length lent)) where
  abbrev v : Voices VoiceState
  v = voices table code vals

  pub block-stays : is_taken x.answer ≡ false → lent ≡ block_left v (settings_of ceiling most chosen) s lent
  unfolding block_left
  block-stays t = sym (cond-false _ _ (ap (λ (y : Answered State). is_taken y.answer) (sym q) ∙ t))

  pub block-ran : length lent ≡ 320 → (next : State) → next ≡ one_cycle.state_after v (settings_of ceiling most chosen) s
      → x.answer ≡ cond next.playing.ended Ended Taken
      → (left : List ℤ) → left ≡ one_cycle.block_after v (settings_of ceiling most chosen) s lent → left ≡ block_left v (settings_of ceiling most chosen) s lent
  unfolding one_cycle.block_after block_left block_of
  block-ran h next is a left r = go next.playing.ended refl
    where
      go : (b : Bool) → next.playing.ended ≡ b → left ≡ block_left v (settings_of ceiling most chosen) s lent
      go true t = r ∙ cond-true _ _ (ended-law _ _ _ _ _ next is ∙ t) ∙ block-stays (ap is_taken (a ∙ cond-true _ _ t))
      go false t =
          r ∙ cond-false _ _ (ended-law _ _ _ _ _ next is ∙ t)
          ∙ whole-block ceiling (rendered_of v (settings_of ceiling most chosen) (due_of (player_state_of s)) (player_state_of s).plays).mix lent (length-mix _ _ _ _ _ _ ∙ sym h)
          ∙ sym (cond-true _ _ (ap (λ (y : Answered State). is_taken y.answer) (sym q) ∙ ap is_taken (a ∙ cond-false _ _ t)))
