use Prim.Native.Nat.{ℕ, suc, ◌+◌, ◌-◌, ◌*◌, ◌≤◌, ◌<◌}
use mathlib.Core.Path.{◌≡◌, refl, ap, ◌∙◌}
use mathlib.Core.Bool.{Bool, false}
use mathlib.Core.List.{List}
use native.Mathlib.Numerals.{add-one}
use native.Mathlib.Omega.{arith}
use lib.ListN.{length, set}
use lib.Seq.{paste, paste-zero, paste-suc}
use Rattle.base_bitstream.specs.Bits.{bits_of, field, bit}
use Rattle.base_bitstream.proofs.BitValues.{length-bits_of, length-field, get_d-field}
use Rattle.base_bitstream.proofs.Fields.{paste-over}
use Rattle.base_bitstream.proofs.put_field.Goals as goal

-- one more bit of the field
more : (d : List Bool) (at n v i : ℕ) → i < n → at + n ≤ length d → set (paste d at (field n v) i) (at + i) (bit (n - 1 - i) v) ≡ paste d at (field n v) (i + 1)
more d at n v i h hd =
    let e : n - 1 - i ≡ n - suc i = omega arith in
    cc (get_d-field n v i h, paste-suc d at (field n v) i false (omega arith) (rw length-field h), add-one i)

pub loop-i-init : goal.loop-i-init
loop-i-init c =
    let a = c.args in (omega arith, refl, paste-zero (bits_of a.s.now) a.at (field a.n a.v))

pub loop-i-preserved : goal.loop-i-preserved
loop-i-preserved c =
    let a = c.args in
    let i = c.loop-i.i in
    let d = bits_of a.s.now in
    let e : length d ≡ 8 * length a.s.now = length-bits_of a.s.now in (
      omega arith,
      c.put_bit.auto.s ∙ c.loop-i.invariant.1,
      c.put_bit.ensures ∙ ap (λ (l : List Bool). set l (a.at + i) (bit (a.n - 1 - i) a.v)) c.loop-i.invariant.2
          ∙ more d a.at a.n a.v i (omega arith) (omega arith),
    )

pub shape_of-s : goal.shape_of-s
shape_of-s c =
    c.loop-i.invariant.1

pub returns : goal.returns
returns c =
    let a = c.args in
    let i : c.loop-i.i ≡ a.n = omega arith in
    c.loop-i.invariant.2 ∙ ap (λ (k : ℕ). paste (bits_of a.s.now) a.at (field a.n a.v) k) i
    ∙ paste-over (bits_of a.s.now) a.at (field a.n a.v) a.n (length-field a.n a.v)
