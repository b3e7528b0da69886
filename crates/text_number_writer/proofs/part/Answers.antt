use borrow.Author.Rules.{rules}
use Prim.Native.Nat.{ℕ, ◌+◌, ◌*◌, ◌/◌, ◌%◌, ◌≤◌, ◌<◌}
use native.Mathlib.Nat.{mul-le-mul, le_of_lt}
use native.Mathlib.Omega.{arith}
use mathlib.Core.Path.{◌≡◌, sym, subst}
use mathlib.Core.Bool.{true}
use lib.Dec.{T}
use lib.Ieee.{Float, binary32, fits, to_bits}
use Rattle.text_number_writer.proofs.Candidates.{Fields, fields-of, around-low, around-middle, around-high, around-last}
use Rattle.text_number_writer.proofs.part.Goals as goal

fields : (x : Float) (b : ℕ) → fits binary32 x ≡ true → b ≡ to_bits binary32 x → Fields x (b % 2147483648 / 8388608) (b % 8388608)
fields x b h e = fields-of x b (subst T (sym h) tt) e

pub returns-then-exponent-lt110 : goal.returns-then-exponent-lt110
returns-then-exponent-lt110 c =
    (around-low _ _ _ _ c.requires (fields _ _ c.well_formed.0.1 c.float_bits-b.ensures) c.if-exponent-lt110.true, omega arith)

pub returns-then-exponent-gt150 : goal.returns-then-exponent-gt150
returns-then-exponent-gt150 c =
    (around-high _ _ _ _ c.requires (fields _ _ c.well_formed.0.1 c.float_bits-b.ensures) c.if-exponent-gt150.true, omega arith)

pub overflow_mul-product : goal.overflow_mul-product
overflow_mul-product c =
    let p : c.power_of_ten.result < 4294967296 = search rules in
    let m : 8388608 + c.float_bits-b.result % 8388608 ≤ 16777216 = omega arith in
    let h : (8388608 + c.float_bits-b.result % 8388608) * c.power_of_ten.result ≤ 16777216 * 4294967296 = mul-le-mul m (le_of_lt p) in
    omega arith

pub returns-then-f : goal.returns-then-f
returns-then-f c = (
  around-middle _ _ _ _ _ c.requires c.power_of_ten.ensures (fields _ _ c.well_formed.0.1 c.float_bits-b.ensures) c.if-exponent-lt110.false c.if-exponent-gt150.false,
  omega (arith, c.if-f.true),
)

pub returns : goal.returns
returns c = (
  around-last _ _ _
      (around-middle _ _ _ _ _ c.requires c.power_of_ten.ensures (fields _ _ c.well_formed.0.1 c.float_bits-b.ensures) c.if-exponent-lt110.false c.if-exponent-gt150.false)
      c.if-f.false,
  omega arith,
)
