-- Every sample of a cycle's block lies within the ceiling.
use mathlib.Core.Path.{◌≡◌, ap, subst⁻¹}
use mathlib.Core.Bool.{true, false}
use mathlib.Core.List.{List, [], ◌∷◌}
use Prim.Native.Nat.{ℕ, ◌≤◌}
use native.Mathlib.Omega.{arith}
use Rattle.settings_records.specs.declared.InUse.{InUse}
use Rattle.player_model.specs.Calls.{numbered, is_zero, Transition, cycles_with}
use Rattle.player_model.specs.Set.{settings_by}
use Rattle.player_model.specs.Condition3.{WithinCeiling}
use Rattle.player_model.proofs.BySettings.{Agree, agree-here, agree_after, next_set}
use Rattle.base_float32.specs.Limit.{Within}
use Rattle.base_float32.proofs.Ceiling.{every-sample-within}
use Rattle.player_model.specs.Lists.{All}
use Rattle.player_model.specs.Cycle.{Voices, limited}
use Rattle.player_model.specs.PlayerState.{Settings, Due, PlayingState, rendered_of, block_of}
use Rattle.player_model.proofs.Lists.{all-each, by-test}

pub block_within : {S : Type 0} (v : Voices S) (s : Settings) → 1 ≤ s.ceiling → s.ceiling ≤ 32767 → (due : Due) (p : PlayingState S)
    → All (Within s.ceiling) (block_of v s due p)
unfolding block_of limited
block_within v s low high due p = all-each _ (Within s.ceiling) (λ x. every-sample-within x s.ceiling low high) (rendered_of v s due p).mix

-- ---- a list of transitions whose blocks keep the ceiling that is set

module _ {P : Type 0} where
  -- the transitions are counted as a trace counts them
  abbrev pub Counted : ℕ → List (Transition P) → Type 0
  Counted k [] = Unit {0}
  Counted k (m ∷ ms) = (m.cycles ≡ k) × Counted (cycles_with m) ms

  -- with this set, a block that comes with the answer 0 is within the ceiling; it comes with a numbered cycle call only
  pub record Bound (set : InUse) (m : Transition P) : Type 0 where
    pub block : numbered m.call ≡ true → is_zero m.after.answers ≡ true → All (Within set.last.ceiling) m.after.buffers.block
    pub none : numbered m.call ≡ false → is_zero m.after.answers ≡ true → m.after.buffers.block ≡ []

  abbrev pub AllBound : InUse → List (Transition P) → Type 0
  AllBound set [] = Unit {0}
  AllBound set (m ∷ ms) = Bound set m × AllBound (next_set set m) ms

  pub within-by-set : (chosen : ℕ) (settings : ℕ → Settings) (ms : List (Transition P)) (k : ℕ) (set : InUse) → Counted k ms → Agree chosen settings k set ms → AllBound set ms
      → All (WithinCeiling settings) ms
  within-by-set chosen settings [] k set c a b = tt
  within-by-set chosen settings (m ∷ ms) k set c a b =
      let a' : Agree chosen settings m.cycles set (m ∷ ms) = subst⁻¹ (λ (n : ℕ). Agree chosen settings n set (m ∷ ms)) c.0 a in (
        (λ t. by-test (numbered m.call)
            (λ q. subst⁻¹ (λ (s : Settings). All (Within s.ceiling) m.after.buffers.block) (agree-here chosen settings m.cycles set m ms a' q) (b.0.block q t))
            (λ q. subst⁻¹ (All (Within (settings m.cycles).ceiling)) (b.0.none q t) tt)),
        within-by-set chosen settings ms (cycles_with m) (next_set set m) c.1 (agree_after chosen settings set m ms a') b.1,
      )

  -- the settings by the transitions themselves
  pub bound-within : (chosen : ℕ) (k : InUse) (ms : List (Transition P)) → Counted 0 ms → AllBound k ms → All (WithinCeiling (settings_by chosen k ms)) ms
  unfolding Agree
  bound-within chosen k ms c b =
      within-by-set chosen (settings_by chosen k ms) ms 0 k c (λ n j q. ap (settings_by chosen k ms) (let z : n ≡ j = omega (arith, q) in z)) b
