-- Document 01, step 6 of a cycle, for a whole block. Definitions only.
use Rattle.std.specs.Prelude.{ℕ, List, [], ◌∷◌, ℤ, Float}
use Rattle.base_float32.specs.Limit.{sample_of}

-- each summed sample, limited, laid over the block; what the mix does not reach stays
unfoldable pub limited : ℕ → List Float → List ℤ → List ℤ
limited ceiling [] block = block
limited ceiling (x ∷ mix) [] = []
limited ceiling (x ∷ mix) (old ∷ block) = sample_of x ceiling ∷ limited ceiling mix block
