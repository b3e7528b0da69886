-- Values kept one by one, and what the stick's rules make of them. Assumes nothing.
use Prim.Native.Nat.{ℕ, suc, ◌+◌, ◌-◌, ◌≤◌, ◌<◌, min as lesser}
use mathlib.Core.Path.{◌≡◌, refl, sym, ap, ◌∙◌}
use mathlib.Core.Bool.{Bool, true, false}
use mathlib.Core.List.{List, [], ◌∷◌, ◌++◌, map}
use native.Mathlib.Omega.{arith}
use borrow.Author.Tests.{lt-ltb, le-ltb, ltb-true, ltb-false}
use lib.Dec.{ltb}
use lib.ListN.{length, take, set, replicate, length-append, length-map}
use lib.Seq.{take_all, take-append-le, set_at, append_snoc}
use lib.Ieee.{Float}
use Rattle.base_laws.proofs.Choice.{cond-true, cond-false}
use Rattle.base_laws.proofs.Lists.{map-append}
use Rattle.text_format.specs.Content.{bits}
use Rattle.text_content.specs.Judged.{eight, kept_of, with_value}
use Rattle.text_content.specs.declared.ValueBits.{ValueBits}

-- ---- the ways through `with_value`

pub stored : (k : ValueBits) (x : Float) {b : ℕ} → k.count < 8 → b ≡ bits x → record { count = k.count + 1; bits = set k.bits k.count b } ≡ with_value k x
unfolding with_value
stored k x h e = ap (λ (y : ℕ). record { count = k.count + 1; bits = set k.bits k.count y }) e ∙ sym (cond-true _ _ (lt-ltb k.count 8 h))

pub counted : (k : ValueBits) (x : Float) → 8 ≤ k.count → record { count = 9; bits = k.bits } ≡ with_value k x
unfolding with_value
counted k x h = sym (cond-false _ _ (le-ltb k.count 8 h))

-- ---- one value more

-- a word into the first of the zeros
set_next : (ws : List ℕ) (b : ℕ) → length ws < 8 → set (eight ws) (length ws) b ≡ eight (ws ++ (b ∷ []))
unfolding eight
set_next ws b h =
    let e : 8 - length ws ≡ suc (8 - suc (length ws)) = omega arith in
    let n : suc (length ws) ≡ length (ws ++ (b ∷ [])) = omega (arith, length-append ws (b ∷ [])) in
    cc (set_at ws 0 (replicate (8 - suc (length ws)) 0) b (length ws) refl, append_snoc ws b (replicate (8 - length (ws ++ (b ∷ []))) 0))

module _ (vs : List Float) (x : Float) where
  long : length (map bits (vs ++ (x ∷ []))) ≡ length vs + 1
  long = length-map (vs ++ (x ∷ [])) bits ∙ length-append vs (x ∷ [])

  few : length vs < 8 → with_value (kept_of vs) x ≡ kept_of (vs ++ (x ∷ []))
  unfolding kept_of with_value
  few h =
      let ws = map bits vs in
      let n : length ws ≡ length vs = length-map vs bits in
      let c : lesser (length vs) 9 ≡ length vs = omega arith in
      let t : take 8 ws ≡ ws = take_all 8 ws (omega arith) in
      let u : take 8 (map bits (vs ++ (x ∷ []))) ≡ ws ++ (bits x ∷ []) = take_all 8 (map bits (vs ++ (x ∷ []))) (omega (arith, long)) ∙ map-append bits vs (x ∷ []) in
      let d : lesser (length vs) 9 + 1 ≡ lesser (length (vs ++ (x ∷ []))) 9 = omega (arith, length-append vs (x ∷ [])) in
      let b : set (eight (take 8 ws)) (lesser (length vs) 9) (bits x) ≡ eight (take 8 (map bits (vs ++ (x ∷ [])))) = cc (set_next ws (bits x) (omega arith)) in
      cond-true _ _ (lt-ltb (lesser (length vs) 9) 8 (omega arith)) ∙ (λ i. record { count = d i; bits = b i })

  many : 8 ≤ length vs → with_value (kept_of vs) x ≡ kept_of (vs ++ (x ∷ []))
  unfolding kept_of with_value
  many h =
      let ws = map bits vs in
      let n : length ws ≡ length vs = length-map vs bits in
      let t : take 8 ws ≡ take 8 (map bits (vs ++ (x ∷ []))) = sym (ap (take 8) (map-append bits vs (x ∷ [])) ∙ take-append-le 8 ws (bits x ∷ []) (omega arith)) in
      let d : 9 ≡ lesser (length (vs ++ (x ∷ []))) 9 = omega (arith, length-append vs (x ∷ [])) in
      cond-false _ _ (le-ltb (lesser (length vs) 9) 8 (omega arith)) ∙ (λ i. record { count = d i; bits = eight (t i) })

  pub kept_more : with_value (kept_of vs) x ≡ kept_of (vs ++ (x ∷ []))
  kept_more = go (ltb (length vs) 8) refl
    where
      go : (b : Bool) → ltb (length vs) 8 ≡ b → with_value (kept_of vs) x ≡ kept_of (vs ++ (x ∷ []))
      go true e = few (ltb-true (length vs) 8 e)
      go false e = many (ltb-false (length vs) 8 e)
