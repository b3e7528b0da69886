-- One division of two whole numbers, both exact as floats, gives what a number in text means. Assumes nothing.
use Prim.Native.Nat.{ℕ, ◌*◌, ◌^◌, ◌≤◌, ◌<◌}
use mathlib.Core.Path.{◌≡◌, ap}
use mathlib.Core.Bool.{true, false, true≢false}
use native.Mathlib.Nat.{le_of_lt, zero-lt-suc, one-le-pow, pow-le-pow_right, mul-pos}
use native.Mathlib.Omega.{arith}
use borrow.Author.Tests.{ne_eqb}
use lib.IntN.{pos}
use lib.Ieee.{Float, nan, inf, fin, binary32, up, down, round, of_int, div}
use lib.Ieee.Back.{round_whole}
use lib.Ieee.Exact.{HasValue}
use lib.Ieee.Fits.{down_pos, up_pos}
use lib.Ieee.Positive.{first_pos}
use lib.Ieee.Scale.{round_same}
use Rattle.text_numerals.specs.Numeral.{most_number, most_decimals, float_of}

div-at : (x y : Float) (a b : ℕ) → 0 < b → HasValue x false a 1 → HasValue y false b 1 → div binary32 x y ≡ round binary32 false a b
unfolding div
div-at nan y a b B h k = absurd h
div-at (inf s) y a b B h k = absurd h
div-at (fin true m e) y a b B h k = absurd (true≢false h.0)
div-at (fin false m e) nan a b B h k = absurd k
div-at (fin false m e) (inf s) a b B h k = absurd k
div-at (fin false m e) (fin true n g) a b B h k = absurd (true≢false k.0)
div-at (fin false m e) (fin false n g) a b B h k =
    let some : 0 < n = first_pos n (up g) (first_pos (n * up g) 1 (omega (arith, k.1, mul-pos B (down_pos g)))) in
    let ne : n ≡ 0 → ⊥ = λ z. omega arith in
    let p : m * up e ≡ a * down e = omega (arith, h.1) in
    let q : n * up g ≡ b * down g = omega (arith, k.1) in
    rw (ne_eqb n 0 ne) (round_same binary32 false (m * up e * down g) (n * up g * down e) a b (mul-pos (mul-pos some (up_pos g)) (down_pos e)) B
    (omega (arith, ap (λ (z : ℕ). z * down g * b) p, ap (λ (z : ℕ). a * (z * down e)) q)))

pub ten-pos : (d : ℕ) → 0 < 10 ^ d
ten-pos d = one-le-pow d 10 (zero-lt-suc 9)

pub ten-mono : {i j : ℕ} → i ≤ j → 10 ^ i ≤ 10 ^ j
ten-mono h = pow-le-pow_right (zero-lt-suc 9) h

pub quotient : (n d : ℕ) → n < most_number → d ≤ most_decimals → div binary32 (of_int binary32 (pos n)) (of_int binary32 (pos (10 ^ d))) ≡ float_of false n d
unfolding float_of of_int
quotient n d h k =
    let c = 10 ^ d in
    let l : c ≤ 2 ^ 24 = omega (arith, ten-mono k) in
    div-at (round binary32 false n 1) (round binary32 false c 1) n c (ten-pos d) (round_whole binary32 false n (le_of_lt h)) (round_whole binary32 false c l)
