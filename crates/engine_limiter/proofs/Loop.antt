-- The loop over the block: what is limited so far, with the rest limited, is the whole. Assumes nothing.
use Prim.Native.Nat.{ℕ, suc, ◌+◌, ◌≤◌, ◌<◌}
use native.Mathlib.Omega.{arith}
use native.Mathlib.Numerals.{add-one}
use mathlib.Core.Path.{◌≡◌, refl, sym, ap, ap₂, ◌∙◌}
use mathlib.Core.List.{List, [], ◌∷◌, ◌++◌, append_assoc, append-nil}
use lib.IntN.{ℤ}
use lib.ListN.{length, get_or, take, drop, set, length-set, drop_of_length-le, take-append-drop}
use lib.Seq.{drop-cons, take-suc-set, drop-set-lt, take_all}
use lib.Ieee.{Float, nan}
use Rattle.base_float32.specs.Limit.{sample_of}
use Rattle.engine_limiter.specs.Block.{limited}

no_room : (ceiling : ℕ) (mix : List Float) → limited ceiling mix [] ≡ []
unfolding limited
no_room ceiling [] = refl
no_room ceiling (x ∷ mix) = refl

module _ (ceiling : ℕ) (mix : List Float) (whole : List ℤ) (n : ℕ) where
  pub record Limiting (block : List ℤ) (i : ℕ) : Type 0 where
    pub size : length block ≡ n
    pub is : take i block ++ limited ceiling (drop i mix) (drop i block) ≡ whole

  module _ (block : List ℤ) (i : ℕ) (g : Limiting block i) where
    pub again : (v : ℤ) → i < length block → i < length mix → v ≡ sample_of (get_or mix i nan) ceiling → Limiting (set block i v) (i + 1)
    unfolding limited
    again v h k e =
        let b = drop-cons block i v h in
        let m = drop-cons mix i nan k in
        let t : take (i + 1) (set block i v) ≡ take i block ++ v ∷ [] = rw (add-one i) (take-suc-set block i v h) in
        let r : drop (i + 1) (set block i v) ≡ drop (suc i) block = rw (add-one i) (drop-set-lt (suc i) block i v (omega arith)) in
        let d : drop (i + 1) mix ≡ drop (suc i) mix = rw (add-one i) in
        record {
          size = length-set block i v ∙ g.size;
          is =
              rw (t, r, d, append_assoc, e)
              (sym (ap₂ (λ (p : List Float) (q : List ℤ). take i block ++ limited ceiling p q) m b) ∙ g.is);
        }

    pub block-done : n ≤ i → block ≡ whole
    block-done r =
        let h : length block ≤ i = rw g.size r in
        sym (append-nil block)
        ∙ ap₂ (λ (p q : List ℤ). p ++ q) (sym (take_all i block h)) (sym (no_room ceiling (drop i mix)))
        ∙ ap (λ (q : List ℤ). take i block ++ limited ceiling (drop i mix) q) (sym (drop_of_length-le block {i = i} h))
        ∙ g.is

    pub mix-done : length mix ≤ i → block ≡ whole
    unfolding limited
    mix-done h =
        sym (take-append-drop i block)
        ∙ ap (λ (p : List Float). take i block ++ limited ceiling p (drop i block)) (sym (drop_of_length-le mix {i = i} h))
        ∙ g.is

pub starts : (ceiling : ℕ) (mix : List Float) (block : List ℤ) → Limiting ceiling mix (limited ceiling mix block) (length block) block 0
starts ceiling mix block = record { size = refl; is = refl }
