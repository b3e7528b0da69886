use Prim.Native.Nat.{◌+◌, ◌*◌, ◌/◌, ◌%◌}
use mathlib.Core.Path.{◌≡◌}
use native.Mathlib.Omega.{arith}
use Rattle.base_bitstream.specs.Bits.{bit}
use Rattle.base_bitstream.proofs.BitValues.{set-bits_of, with_bit, digit-bit}
use Rattle.base_bitstream.proofs.put_bit.Goals as goal

pub returns : goal.returns
unfolding with_bit
returns c =
    let a = c.args in
    let s = a.s.now in
    let at = a.at in
    let b = bit a.k a.v in
    let e : at ≡ 8 * (at / 8) + at % 8 = omega arith in
    cc (c.with_bit.ensures, digit-bit a.k a.v, set-bits_of s (at / 8) (at % 8) b (omega arith) (omega arith))
