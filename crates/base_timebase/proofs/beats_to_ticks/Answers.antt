use Rattle.std.proofs.Common.{◌≡◌, ℕ, zero, suc, ◌+◌, ◌-◌, ◌*◌, ◌^◌, ◌<◌, T, sym, refl, ◌∙◌, subst, arith, rules}
use lib.Ieee.{of_bits}
use lib.Ieee.Positive.{first_pos}
use Rattle.base_timebase.proofs.Pattern.{Units, low-units, high-units, above_zero, no_nan, not-above, too-late}
use Rattle.base_timebase.proofs.beats_to_ticks.Goals as goal

low : (c : goal.Then-exponent-eq0) → Units c.args.time (c.digits_of-digits.result * 2 ^ 0)
unfolding of_bits
low c =
    low-units _ _ _ (subst T (sym c.well_formed.0.1) tt) c.if-time.true c.if-time-2.true c.exponent_of-exponent.ensures c.digits_of-digits.ensures c.if-exponent-eq0.true

high : (c : goal.Else-exponent-eq0)
    → Units c.args.time ((8388608 + c.digits_of-digits.result) * 2 ^ (c.exponent_of-exponent.result - 1))
unfolding of_bits
high c =
    high-units _ _ _ (subst T (sym c.well_formed.0.1) tt) c.if-time.true c.if-time-2.true c.exponent_of-exponent.ensures c.digits_of-digits.ensures c.if-exponent-eq0.false

some-exponent : (n : ℕ) → (n ≡ 0 → ⊥) → 0 < n
some-exponent zero f = absurd (f refl)
some-exponent (suc n) f = omega arith

pub float_to_bits-b : goal.float_to_bits-b
unfolding of_bits
float_to_bits-b c =
    no_nan _ (above_zero _ c.if-time.true c.if-time-2.true)

pub shifted-requires : goal.shifted-requires
shifted-requires c =
    (first_pos _ _ (low c).some, search rules, (low c).most)

pub returns-then-exponent-eq0 : goal.returns-then-exponent-eq0
returns-then-exponent-eq0 c =
    c.shifted.ensures ∙ (low c.before).ticks

pub shifted-requires-then-time-2 : goal.shifted-requires-then-time-2
shifted-requires-then-time-2 c =
    (first_pos _ _ (high c).some, some-exponent _ c.if-exponent-eq0.false, (high c).most)

pub returns-then-time-2 : goal.returns-then-time-2
returns-then-time-2 c =
    c.shifted-then-time-2.ensures ∙ (high c.before).ticks

pub returns-else-time-2 : goal.returns-else-time-2
unfolding of_bits
returns-else-time-2 c =
    too-late _ c.if-time-2.false

pub returns-else-time : goal.returns-else-time
unfolding of_bits
returns-else-time c =
    not-above _ c.if-time.false
