use Prim.Native.Nat.{ℕ, ◌+◌, ◌-◌, ◌*◌, ◌/◌, ◌%◌, ◌^◌, ◌<◌, ◌≤◌}
use mathlib.Core.Path.{◌≡◌, refl, sym, ap, ◌∙◌}
use mathlib.Core.List.{List}
use native.Mathlib.Nat.{lt_of_lt_of_le}
use native.Mathlib.Numerals.{add-one}
use native.Mathlib.Omega.{arith}
use lib.ListN.{length, take, drop, get_or, length-drop, length-take}
use lib.Seq.{length-take-le}
use lib.Pow.{pow_mono}
use Rattle.base_bitstream.specs.Bits.{bits_of, value_of}
use Rattle.base_bitstream.proofs.BitValues.{length-bits_of, value_of-lt}
use Rattle.base_bitstream.proofs.Window.{window_more, value-part, in_window}
use Rattle.base_bitstream.proofs.value_at.Goals as goal

window-lt : (l : List ℕ) (i : ℕ) → i ≤ 4 → value_of (bits_of (take i l)) < 2 ^ 32
window-lt l i h = lt_of_lt_of_le (value_of-lt (bits_of (take i l))) (pow_mono {j = 32} (rw (length-bits_of, length-take) (omega arith)))

-- in the loop's body, at most 4 bytes have been read
small : (s : List ℕ) (q i w : ℕ) → w ≡ value_of (bits_of (take i (drop q s))) → i ≤ 4 → w < 2 ^ 32
small s q i w e h = rw e (window-lt (drop q s) i h)

pub loop-i-init : goal.loop-i-init
unfolding value_of bits_of
loop-i-init c =
    (omega arith, refl)

pub overflow_mul-w : goal.overflow_mul-w
overflow_mul-w c =
    omega (arith, small c.args.s.now (c.args.at / 8) c.loop-i.i c.loop-i.w c.loop-i.invariant.1 (omega arith))

pub overflow_cast-w : goal.overflow_cast-w
overflow_cast-w c =
    omega (arith, c.shared_slice_known-in-loop-i-1.given (c.args.at / 8 + c.loop-i.i))

pub overflow_add-w-in-loop-i : goal.overflow_add-w-in-loop-i
overflow_add-w-in-loop-i c =
    omega (arith, small c.args.s.now (c.args.at / 8) c.loop-i.i c.loop-i.w c.loop-i.invariant.1 (omega arith), c.shared_slice_known-in-loop-i-1.given (c.args.at / 8 + c.loop-i.i))

pub loop-i-preserved : goal.loop-i-preserved
loop-i-preserved c =
    let a = c.args in
    let s = a.s.now in
    let q = a.at / 8 in
    let i = c.loop-i.i in (
      omega arith,
      sym (ap (λ (x : ℕ). value_of (bits_of (take x (drop q s)))) (add-one i)
          ∙ window_more s q i (omega arith) (omega (arith, c.shared_slice_known-in-loop-i-1.given (q + i)))
          ∙ ap (λ (x : ℕ). x * 256 + get_or s (q + i) 0) (sym c.loop-i.invariant.1)),
    )

pub returns : goal.returns
returns c =
    let a = c.args in
    let s = a.s.now in
    let n = a.n in
    let q = a.at / 8 in
    let r = a.at % 8 in
    let k = (r + n + 7) / 8 in
    let m = 8 * k - r - n in
    let L : length (bits_of s) ≡ 8 * length s = length-bits_of s in
    let i : c.loop-i.i ≡ k = omega arith in
    let t = take k (drop q s) in
    let lt : length t ≡ k = length-take-le k (drop q s) (rw length-drop (omega arith)) in
    let lw : length (bits_of t) ≡ 8 * length t = length-bits_of t in
    let w : c.loop-i.w ≡ value_of (bits_of t) = c.loop-i.invariant.1 ∙ ap (λ (x : ℕ). value_of (bits_of (take x (drop q s)))) i in
    let e : 8 * q + r ≡ a.at = omega arith in
    c.low_bits.ensures ∙ ap (λ (x : ℕ). x / 2 ^ m % 2 ^ n) w ∙ sym (value-part (bits_of t) r n m (omega arith))
    ∙ ap value_of (in_window s q r n k (omega arith) ∙ ap (λ (x : ℕ). take n (drop x (bits_of s))) e)
