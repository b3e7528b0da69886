use Prim.Native.Nat.{ℕ, ◌+◌, ◌/◌, ◌%◌}
use mathlib.Core.Path.{ap}
use Rattle.text_number_writer.proofs.digit_at.Goals as goal

pub returns : goal.returns
returns c =
    ap (λ (z : ℕ). 48 + c.args.n / z % 10) c.power_of_ten.ensures.0
