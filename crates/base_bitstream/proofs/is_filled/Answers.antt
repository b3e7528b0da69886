use Prim.Native.Nat.{ℕ, ◌/◌}
use mathlib.Core.Path.{ap, ◌∙◌}
use native.Mathlib.Omega.{arith}
use lib.Dec.{eqb}
use Rattle.base_bitstream.proofs.Filling.{filled-past, filled_more, filled-last}
use Rattle.base_bitstream.proofs.is_filled.Goals as goal

pub returns-then-s-q : goal.returns-then-s-q
returns-then-s-q c =
    search filled-past

pub returns-then-r-eq0 : goal.returns-then-r-eq0
returns-then-r-eq0 c =
    filled_more _ _ (omega arith)

pub returns-then-q-s : goal.returns-then-q-s
returns-then-q-s c =
    filled_more _ _ (omega arith)

pub overflow_cast-s : goal.overflow_cast-s
overflow_cast-s c =
    omega (arith, c.shared_slice_known-2-1.given (c.args.p / 8))

pub returns : goal.returns
returns c =
    let a = c.args in
    ap (λ (x : ℕ). eqb x 0) c.low_bits.ensures
    ∙ filled-last a.s.now a.p (omega arith) (omega arith) (omega (arith, c.shared_slice_known-2-1.given (a.p / 8)))
