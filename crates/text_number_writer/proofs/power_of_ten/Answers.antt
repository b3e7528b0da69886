use Prim.Native.Nat.{ℕ, ◌^◌, ◌<◌}
use mathlib.Core.Path.{◌≡◌, sym, ap}
use native.Mathlib.Omega.{arith}
use Rattle.text_number_writer.proofs.power_of_ten.Goals as goal

is : {j : ℕ} (k : ℕ) → j ≡ k → 0 < 10 ^ k → (10 ^ k ≡ 10 ^ j) × (0 < 10 ^ k)
is k e h = (ap (λ (z : ℕ). 10 ^ z) (sym e), h)

pub returns-in-0 : goal.returns-in-0
returns-in-0 c =
    is 0 c.in-0.is (omega arith)

pub returns-in-1 : goal.returns-in-1
returns-in-1 c =
    is 1 c.in-1.is (omega arith)

pub returns-in-2 : goal.returns-in-2
returns-in-2 c =
    is 2 c.in-2.is (omega arith)

pub returns-in-3 : goal.returns-in-3
returns-in-3 c =
    is 3 c.in-3.is (omega arith)

pub returns-in-4 : goal.returns-in-4
returns-in-4 c =
    is 4 c.in-4.is (omega arith)

pub returns-in-5 : goal.returns-in-5
returns-in-5 c =
    is 5 c.in-5.is (omega arith)

pub returns-in-6 : goal.returns-in-6
returns-in-6 c =
    is 6 c.in-6.is (omega arith)

pub returns-in_default : goal.returns-in_default
returns-in_default c =
    is 7 (omega arith) (omega arith)
