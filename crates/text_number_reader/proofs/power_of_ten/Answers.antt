use mathlib.Core.Path.{◌≡◌, sym, ap}
use Prim.Native.Nat.{ℕ, ◌^◌}
use native.Mathlib.Omega.{arith}
use Rattle.text_number_reader.proofs.power_of_ten.Goals as goal

power : {d : ℕ} (k : ℕ) → d ≡ k → 10 ^ k ≡ 10 ^ d
power k e = ap (λ (z : ℕ). 10 ^ z) (sym e)

pub returns-in-0 : goal.returns-in-0
returns-in-0 c =
    power 0 c.in-0.is

pub returns-in-1 : goal.returns-in-1
returns-in-1 c =
    power 1 c.in-1.is

pub returns-in-2 : goal.returns-in-2
returns-in-2 c =
    power 2 c.in-2.is

pub returns-in_default : goal.returns-in_default
returns-in_default c =
    let three : c.args.d ≡ 3 = omega arith in power 3 three
