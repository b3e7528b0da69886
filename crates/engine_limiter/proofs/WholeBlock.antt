-- A block as long as the mix is the mix, each sample limited. Assumes nothing.
use Prim.Native.Nat.{ℕ}
use native.Mathlib.Omega.{arith}
use mathlib.Core.Path.{◌≡◌, refl, ap}
use mathlib.Core.List.{List, [], ◌∷◌, map}
use lib.IntN.{ℤ}
use lib.ListN.{length}
use lib.Ieee.{Float}
use Rattle.base_float32.specs.Limit.{sample_of}
use Rattle.engine_limiter.specs.Block.{limited}

pub limited-whole : (ceiling : ℕ) (mix : List Float) (block : List ℤ) → length mix ≡ length block → limited ceiling mix block ≡ map (λ (x : Float). sample_of x ceiling) mix
unfolding limited
limited-whole ceiling [] [] e = refl
limited-whole ceiling [] (old ∷ block) e = absurd (omega arith)
limited-whole ceiling (x ∷ mix) [] e = absurd (omega arith)
limited-whole ceiling (x ∷ mix) (old ∷ block) e = ap (λ (l : List ℤ). sample_of x ceiling ∷ l) (limited-whole ceiling mix block (omega arith))
