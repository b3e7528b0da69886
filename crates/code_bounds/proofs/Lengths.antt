-- The straight-line code of a pass is no longer than the program that it comes from.
use Prim.Native.Nat.{ℕ, ◌+◌, ◌≤◌}
use native.Mathlib.Omega.{arith}
use mathlib.Core.List.{List, [], ◌∷◌, map}
use lib.ListN.{length, length-append}
use Rattle.orchestra_syntax.specs.Tree.{Statements, Instrument}
use Rattle.orchestra_syntax.specs.inside.Program.{code, instrument, program}
use Rattle.orchestra_syntax.specs.inside.Placed.{placed as put}
use Rattle.code_translation.specs.Translation.{lowered}
use Rattle.code_translation.proofs.Lengths.{lowered-short}
use Rattle.code_bounds.specs.Sizes.{body_at, all_lowered, LoweredFits}
use Rattle.code_bounds.proofs.Exprs.{past-length}
use Rattle.code_bounds.proofs.WholeOrchestra.{program-fits, body-length}

pub lowered-length : (r n g : ℕ) (t : Statements) → length (lowered r n g t) ≤ length (code t)
lowered-length r n g t = omega (arith, lowered-short r n g t, past-length n t)

pub all-lowered-length : (r n : ℕ) (is : List Instrument) → length (all_lowered r n is) ≤ length (program is)
unfolding all_lowered program
all-lowered-length r n [] = omega arith
all-lowered-length r n (i ∷ is) =
    let m = body_at n i in
    let k = n + length (instrument i) in
    omega (
      arith,
      length-append (lowered r m 0 i.body) (all_lowered r k is),
      length-append (instrument i) (program is),
      lowered-length r m 0 i.body,
      body-length n i,
      all-lowered-length r k is,
    )

pub lowered-fits : LoweredFits
lowered-fits is ts r d m = omega (arith, all-lowered-length r 0 (map put is), program-fits is ts d m)
