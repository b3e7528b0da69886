-- Which patterns are in range. Assumes nothing.
use Rattle.std.proofs.Common.{◌≡◌, ℕ, zero, suc, ◌+◌, ◌*◌, ◌/◌, ◌%◌, ◌^◌, ◌<◌, ◌≤◌, Bool, true, false, cond, not, T, eqb, ltb, leb, pos, sym, refl, ◌∙◌, true≢false, mod-lt, mod-eq_of_lt, arith, ltb-false, ltb-true, le-ltb, lt-ltb, eq-eqb, ne_eqb}
use mathlib.Core.Bool.{and-false}
use borrow.Author.Tests.{lt-leb}
use borrow.Table.Steps.{cases}
use lib.Ieee.{Float, nan, inf, fin, binary32, up, down, odd, of_fields, of_bits, nan_bits, is_nan, le, lt, eq}
use lib.Ieee.Bits.{nan_bits_is, nan_bits_above}
use lib.Ieee.Scale.{finite}
use Rattle.base_timebase.proofs.Order.{AtMost, at-most-back}
use Rattle.base_timebase.specs.Time.{latest, slowest, fastest, finite_bits, time_bits, tempo_bits}
use Rattle.base_timebase.specs.inside.Range.{checked}
use Rattle.std.specs.Prelude.{Some, None}

-- ---- a pattern by its test

pub in-range : (p : Bool) (b : ℕ) → p ≡ true → Some (of_bits binary32 b) ≡ checked p b
unfolding checked
in-range true b e = refl
in-range false b e = absurd (true≢false (sym e))

pub out_of_range : (p : Bool) (b : ℕ) → p ≡ false → None ≡ checked p b
unfolding checked
out_of_range true b e = absurd (true≢false e)
out_of_range false b e = refl

-- a pattern with magnitude at most that of an infinity is no NaN's
pub no_nan : (b : ℕ) → b % 2 ^ 31 ≤ 0x7f80_0000 → T (not (nan_bits binary32 b))
no_nan b h = rw (nan_bits_above binary32 b, le-ltb (0x7f80_0000) (b % 2 ^ 31) h) tt

is-nan : (x : Float) → is_nan x ≡ true → x ≡ nan
unfolding is_nan
is-nan nan e = refl
is-nan (inf s) e = cc
is-nan (fin s m d) e = cc

pub nan-of : (b : ℕ) → 0x7f80_0000 < b % 2 ^ 31 → of_bits binary32 b ≡ nan
nan-of b h = is-nan (of_bits binary32 b) (sym (nan_bits_is binary32 b) ∙ nan_bits_above binary32 b ∙ lt-ltb (0x7f80_0000) (b % 2 ^ 31) h)

-- the tests that `time_of` and `tempo_of` refuse by
pub time-outside : (b : ℕ) → b < 2 ^ 32 → 0x7f80_0000 < b → time_bits b ≡ false
unfolding time_bits
time-outside b f h =
    cases (ltb b (2 ^ 31)) (λ l. rw (nan-of b (rw (mod-eq_of_lt (ltb-true b (2 ^ 31) l)) h)) (and-false (ltb b (2 ^ 31)))) (λ l. rw l)

pub time-is : (b : ℕ) → b ≤ 0x7f80_0000 → time_bits b ≡ le (of_bits binary32 b) latest
unfolding time_bits
time-is b h = rw (lt-ltb b (2 ^ 31) (omega arith))

pub tempo-outside : (b : ℕ) → 0x7f80_0000 < b % 2 ^ 31 → tempo_bits b ≡ false
unfolding tempo_bits le
tempo-outside b h = rw (nan-of b h)

pub tempo-is : (b : ℕ) → le slowest (of_bits binary32 b) ≡ true → tempo_bits b ≡ le (of_bits binary32 b) fastest
unfolding tempo_bits
tempo-is b h = rw h

pub tempo-slow : (b : ℕ) → le slowest (of_bits binary32 b) ≡ false → tempo_bits b ≡ false
unfolding tempo_bits
tempo-slow b h = rw h

-- ---- finite: the exponent's field is not all ones

odd-finite : (d : ℕ) (s : Bool) (q k l : ℕ) → finite (odd d s q k l) ≡ true
unfolding odd
odd-finite d s zero k l = refl
odd-finite d s (suc q) k l = refl

either : (p q s : Bool) (v : Float) → finite v ≡ true → finite (cond p (cond q (inf s) nan) v) ≡ not p
either true true s v h = refl
either true false s v h = refl
either false q s v h = h

fields-finite : (s : Bool) (x t : ℕ) → finite (of_fields binary32 s x t) ≡ not (eqb x 255)
unfolding of_fields
fields-finite s zero t = odd-finite 24 s t 0 149
fields-finite s (suc x) t = either (eqb (suc x) 255) (eqb t 0) s (odd 24 s (8388608 + t) x 149) (odd-finite 24 s (8388608 + t) x 149)

field_below : (r : ℕ) → r < 2 ^ 31 → not (eqb (r / 2 ^ 23) 255) ≡ ltb r 0x7f80_0000
field_below r h =
    cases (ltb r 0x7f80_0000) (λ l. let k = ltb-true r 0x7f80_0000 l in cc (ne_eqb (r / 8388608) 255 (λ e. omega arith)))
    (λ l. let u : r / 8388608 ≡ 255 = omega (arith, ltb-false r 0x7f80_0000 l) in cc (eq-eqb (r / 8388608) 255 u))

-- the test that `value_of` makes
finite-test : (b : ℕ) → finite_bits b ≡ ltb (b % 2 ^ 31) 0x7f80_0000
unfolding finite_bits of_bits
finite-test b = fields-finite (leb (2 ^ 31) b) (b % 2 ^ 31 / 2 ^ 23) (b % 2 ^ 23) ∙ field_below (b % 2 ^ 31) (mod-lt b (lib.Dec.lit< tt))

pub finite-in : (b : ℕ) → b % 2 ^ 31 < 0x7f80_0000 → finite_bits b ≡ true
finite-in b h = finite-test b ∙ lt-ltb _ _ h

pub finite-out : (b : ℕ) → 0x7f80_0000 ≤ b % 2 ^ 31 → finite_bits b ≡ false
finite-out b h = finite-test b ∙ le-ltb _ _ h

-- ---- sign bit clear: zero or more, where it is a number

-- no number, or of sign plus
abbrev plus : Float → Bool
plus nan = true
plus (inf s) = not s
plus (fin s m e) = not s

odd-plus : (d q k l : ℕ) → plus (odd d false q k l) ≡ true
unfolding odd
odd-plus d zero k l = refl
odd-plus d (suc q) k l = refl

either-plus : (p q : Bool) (v : Float) → plus v ≡ true → plus (cond p (cond q (inf false) nan) v) ≡ true
either-plus true true v h = refl
either-plus true false v h = refl
either-plus false q v h = h

fields-plus : (x t : ℕ) → plus (of_fields binary32 false x t) ≡ true
unfolding of_fields
fields-plus zero t = odd-plus 24 t 0 149
fields-plus (suc x) t = either-plus (eqb (suc x) 255) (eqb t 0) (odd 24 false (8388608 + t) x 149) (odd-plus 24 (8388608 + t) x 149)

bits-plus : (b : ℕ) → b < 2 ^ 31 → plus (of_bits binary32 b) ≡ true
unfolding of_bits
bits-plus b h = rw (lt-leb (2 ^ 31) b h) (fields-plus (b % 2 ^ 31 / 2 ^ 23) (b % 2 ^ 23))

abbrev pub zero_f : Float
zero_f = fin false 0 (pos 0)

plus-from-zero : (x y : Float) → plus x ≡ true → le x y ≡ true → le zero_f x ≡ true
unfolding le lt eq AtMost
plus-from-zero nan y p h = absurd (true≢false (sym h))
plus-from-zero (inf true) y p h = absurd (true≢false (sym p))
plus-from-zero (inf false) y p h = refl
plus-from-zero (fin true m e) y p h = absurd (true≢false (sym p))
plus-from-zero (fin false m e) y p h = at-most-back false (0 * down e) false (m * up e * 1) (omega arith)

pub from_zero : (b : ℕ) (y : Float) → b < 2 ^ 31 → le (of_bits binary32 b) y ≡ true → le zero_f (of_bits binary32 b) ≡ true
from_zero b y h l = plus-from-zero (of_bits binary32 b) y (bits-plus b h) l

-- between zero and a finite float
pub between-finite : (x y : Float) → le zero_f x ≡ true → le x y ≡ true → finite y ≡ true → finite x ≡ true
unfolding le lt eq
between-finite nan y k h f = absurd (true≢false (sym h))
between-finite (inf true) y k h f = absurd (true≢false (sym k))
between-finite (inf false) nan k h f = absurd (true≢false (sym h))
between-finite (inf false) (inf t) k h f = absurd (true≢false (sym f))
between-finite (inf false) (fin t n d) k h f = absurd (true≢false (sym h))
between-finite (fin s m d) y k h f = refl
