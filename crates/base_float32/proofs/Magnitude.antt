-- A sample's sign and magnitude. Assumes nothing.
use Rattle.std.proofs.Common.{◌≡◌, ℕ, zero, suc, ◌+◌, ◌-◌, ◌*◌, ◌/◌, ◌^◌, ◌<◌, ◌≤◌, min, true, false, T, pos, ◌-ℤ◌, neg_ℤ, sym, ap, true≢false, le-div_iff_mul-le, arith, lt→ltb, to_z-of_z, w16, SFits, to_z, of_z, ltb-false, ltb-true}
use native.Mathlib.Nat.{zero-min, zero-div}
use lib.IntN.{+ℤ_idl}
use mir.Facts.{to_z_pos, sfits_lit}
use lib.Ieee.{Float, nan, inf, fin, lt, neg, of_bits, to_unsigned, up, down}
use lib.Ieee.Fits.{down_pos}
use Rattle.base_float32.specs.Builtins.{zero_f, minus_one_f}
use Rattle.base_float32.specs.Limit.{held}

pub held-large : (y : Float) (c : ℕ) → c < 2 ^ 16 → lt minus_one_f y ≡ true → lt y (fin false 1 (pos 16)) ≡ false → c ≡ min (to_unsigned 64 y) c
unfolding lt to_unsigned
held-large nan c h p q = absurd (true≢false (sym p))
held-large (inf true) c h p q = absurd (true≢false (sym p))
held-large (inf false) c h p q = omega arith
held-large (fin true m d) c h p q =
    absurd (let k : m * up d * 1 + 1 * 2 ^ 16 * down d ≤ 0 = ltb-false _ _ q in omega (arith, down_pos d))
held-large (fin false m d) c h p q =
    let k : 1 * 2 ^ 16 * down d ≤ m * up d * 1 = ltb-false _ _ q in
    let b : 2 ^ 16 ≤ m * up d / down d = (le-div_iff_mul-le (down_pos d)).1 (omega arith) in
    omega arith

pub held_none : (y : Float) (c : ℕ) → lt minus_one_f y ≡ false → 0 ≡ min (to_unsigned 64 y) c
unfolding lt to_unsigned
held_none nan c p = omega arith
held_none (inf true) c p = omega arith
held_none (inf false) c p = absurd (true≢false p)
held_none (fin true m d) c p = omega arith
held_none (fin false m d) c p =
    absurd (let k : 1 * 1 * down d + m * up d * 1 ≤ 0 = ltb-false _ _ p in omega (arith, down_pos d))

-- a sample's sign and size
module _ (c : ℕ) (h : c ≤ 32767) where
  pub sample-below : (y : Float) → lt y zero_f ≡ true → held c y ≡ neg_ℤ (pos (min (to_unsigned 64 (neg y)) c))
  unfolding lt to_unsigned held neg of_bits
  sample-below nan p = absurd (true≢false (sym p))
  sample-below (inf false) p = absurd (true≢false (sym p))
  sample-below (inf true) p = let e : c ≡ min (2 ^ 64 - 1) c = omega arith in ap (λ (n : ℕ). neg_ℤ (pos n)) e
  sample-below (fin false m d) p = absurd (let k : m * up d * 1 < 0 * down d = ltb-true _ _ p in omega arith)
  sample-below (fin true m d) p =
      let v = m * up d / down d in
      let e : min v c ≡ min (min v (2 ^ 64 - 1)) c = omega arith in ap (λ (n : ℕ). neg_ℤ (pos n)) e

  pub sample-above : (y : Float) → lt y zero_f ≡ false → held c y ≡ pos (min (to_unsigned 64 y) c)
  unfolding lt to_unsigned held of_bits
  sample-above nan p = rw zero-min
  sample-above (inf true) p = absurd (true≢false p)
  sample-above (inf false) p = let e : c ≡ min (2 ^ 64 - 1) c = omega arith in ap pos e
  sample-above (fin false m d) p =
      let v = m * up d / down d in
      let e : min v c ≡ min (min v (2 ^ 64 - 1)) c = omega arith in ap pos e
  sample-above (fin true m d) p =
      let k : m * up d * 1 + 0 * down d ≤ 0 = ltb-false _ _ p in
      let z : m * up d ≡ 0 = omega arith in
      rw (z, zero-div, zero-min)

pub held-range : (y : Float) → lt y (fin false 1 (pos 16)) ≡ true → T (lt y (fin false 1 (pos 64)))
unfolding lt
held-range nan p = absurd (true≢false (sym p))
held-range (inf true) p = tt
held-range (inf false) p = absurd (true≢false (sym p))
held-range (fin true m d) p = lt→ltb 0 (m * up d * 1 + 1 * 2 ^ 64 * down d) (omega (arith, down_pos d))
held-range (fin false m d) p =
    let k : m * up d * 1 < 1 * 2 ^ 16 * down d = ltb-true _ _ p in
    lt→ltb (m * up d * 1) (1 * 2 ^ 64 * down d) (omega (arith, down_pos d))

-- ---- a magnitude of 15 bits as an i16, and its negative
minus_is : (n : ℕ) → n ≤ 32767 → pos 0 -ℤ to_z w16 n ≡ neg_ℤ (pos n)
minus_is n h = rw (to_z_pos w16 {n = n} (omega arith)) (+ℤ_idl (neg_ℤ (pos n)))

sfits_neg : (n : ℕ) → n ≤ 32767 → SFits w16 (neg_ℤ (pos n))
sfits_neg zero h = sfits_lit tt
sfits_neg (suc n) h = record { sfits = omega arith }

pub negates : (n : ℕ) → n ≤ 32767 → SFits w16 (pos 0 -ℤ to_z w16 n)
negates n h = rw (minus_is n h) (sfits_neg n h)

pub negated-is : (n : ℕ) → n ≤ 32767 → to_z w16 (of_z w16 (pos 0 -ℤ to_z w16 n)) ≡ neg_ℤ (pos n)
negated-is n h = rw (minus_is n h) (to_z-of_z (sfits_neg n h))

pub kept-is : (n : ℕ) → n ≤ 32767 → to_z w16 n ≡ pos n
kept-is n h = to_z_pos w16 {n = n} (omega arith)
