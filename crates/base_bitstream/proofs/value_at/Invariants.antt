use Prim.Native.Nat.{◌-◌, ◌≤◌}
use mathlib.Core.Path.{◌≡◌}
use lib.ListN.{take, drop}
use Rattle.base_bitstream.specs.Bits.{bits_of, value_of}
use Rattle.base_bitstream.proofs.value_at.Given as goal

abbrev pub invariant-loop-i : goal.invariant-loop-i
invariant-loop-i l = (l.i ≤ l.k) × (l.w ≡ value_of (bits_of (take l.i (drop l.q l.s))))
