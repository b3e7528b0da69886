use Prim.Native.Nat.{◌-◌, ◌≤◌}
use mathlib.Core.Path.{◌≡◌}
use lib.ListN.{length}
use lib.Seq.{paste}
use Rattle.base_bitstream.specs.Bits.{bits_of, field}
use Rattle.base_bitstream.proofs.put_field.Given as goal

abbrev pub invariant-loop-i : goal.invariant-loop-i
invariant-loop-i l = (l.i ≤ l.n) × (length l.s ≡ length l.initial.s) × (bits_of l.s ≡ paste (bits_of l.initial.s) l.at (field l.n l.v) l.i)
