-- What a bit pattern says of its float's value, and the ticks of a value. Assumes nothing.
use Rattle.std.proofs.Common.{◌≡◌, ℕ, zero, suc, ◌+◌, ◌-◌, ◌*◌, ◌/◌, ◌%◌, ◌^◌, ◌<◌, ◌≤◌, Bool, true, false, cond, not, T, eqb, leb, pos, sym, refl, ap, ◌∙◌, subst, true≢false, mul_right_comm, arith, lt→ltb, pow_pos, ltb-false, ltb-true}
use native.Mathlib.Nat.{div-eq_of_lt}
use denote.Floats.{passes}
use lib.Ieee.{Float, nan, inf, fin, binary32, up, down, lt, le, is_nan, odd, of_fields, of_bits, to_bits, fits}
use lib.Ieee.Bits.{of_bits-to_bits}
use lib.Ieee.Exact.{HasValue, odd_sign}
use lib.Ieee.Fits.{down_pos}
use lib.Ieee.Scale.{finite}
use lib.Ieee.Positive.{num, den, positive, positive-finite, values_of_le, value_pos, value→cross, den_pos}
use Rattle.base_timebase.specs.Time.{nearest, ticks_of, ticks_in, latest}
use Rattle.base_timebase.proofs.Shift.{nearest-cross}

-- ---- a pattern with the exponent's field x and the digits t
low_field : (s : Bool) (x t : ℕ) → x ≡ 0 → HasValue (of_fields binary32 s x t) s (t * 2 ^ 0) (2 ^ 149)
unfolding of_fields
low_field s zero t e = odd_sign 24 s t 0 149
low_field s (suc x) t e = absurd (omega arith)

pick : (p q s : Bool) (v : Float) (a c : ℕ) → T (finite (cond p (cond q (inf s) nan) v)) → HasValue v s a c → HasValue (cond p (cond q (inf s) nan) v) s a c
pick true true s v a c f h = absurd f
pick true false s v a c f h = absurd f
pick false q s v a c f h = h

high-field : (s : Bool) (x t : ℕ) → (x ≡ 0 → ⊥) → T (finite (of_fields binary32 s x t)) → HasValue (of_fields binary32 s x t) s ((8388608 + t) * 2 ^ (x - 1)) (2 ^ 149)
unfolding of_fields
high-field s zero t n f = absurd (n refl)
high-field s (suc x) t n f =
    let e : suc x - 1 ≡ x = omega arith in
    pick (eqb (suc x) 255) (eqb t 0) s (odd 24 s (8388608 + t) x 149) ((8388608 + t) * 2 ^ (suc x - 1)) (2 ^ 149) f
    (subst (λ (k : ℕ). HasValue (odd 24 s (8388608 + t) x 149) s ((8388608 + t) * 2 ^ k) (2 ^ 149)) (sym e) (odd_sign 24 s (8388608 + t) x 149))

low-pattern : (b : ℕ) → b % 2 ^ 31 / 2 ^ 23 ≡ 0 → HasValue (of_bits binary32 b) (leb (2 ^ 31) b) (b % 2 ^ 23 * 2 ^ 0) (2 ^ 149)
unfolding of_bits
low-pattern b e = low_field (leb (2 ^ 31) b) (b % 2 ^ 31 / 2 ^ 23) (b % 2 ^ 23) e

high-pattern : (b : ℕ) → (b % 2 ^ 31 / 2 ^ 23 ≡ 0 → ⊥) → T (finite (of_bits binary32 b)) → HasValue (of_bits binary32 b) (leb (2 ^ 31) b) ((8388608 + b % 2 ^ 23) * 2 ^ (b % 2 ^ 31 / 2 ^ 23 - 1)) (2 ^ 149)
unfolding of_bits
high-pattern b n f = high-field (leb (2 ^ 31) b) (b % 2 ^ 31 / 2 ^ 23) (b % 2 ^ 23) n f

-- ---- a time above 0

abbrev zero_f : Float
zero_f = fin false 0 (pos 0)

pub above_zero : (x : Float) → lt zero_f x ≡ true → le x latest ≡ true → T (positive x)
unfolding lt le
above_zero nan p q = absurd (true≢false (sym p))
above_zero (inf true) p q = absurd (true≢false (sym p))
above_zero (inf false) p q = absurd (true≢false (sym q))
above_zero (fin true m e) p q = absurd (true≢false (sym p))
above_zero (fin false zero e) p q = absurd (let h : 0 * down e < 0 * up e * 1 = ltb-true _ _ p in omega arith)
above_zero (fin false (suc m) e) p q = lt→ltb 0 (suc m) (omega arith)

clear : (x : Float) (s : Bool) (a c : ℕ) → T (positive x) → HasValue x s a c → HasValue x false a c
clear nan s a c p h = absurd p
clear (inf t) s a c p h = absurd p
clear (fin true m e) s a c p h = absurd p
clear (fin false m e) s a c p h = (refl, h.1)

ticks-num : (x : Float) → T (positive x) → ticks_of x ≡ nearest (num x * 6144000) (den x)
unfolding ticks_of
ticks-num nan p = absurd p
ticks-num (inf s) p = absurd p
ticks-num (fin true m e) p = absurd p
ticks-num (fin false m e) p = refl

-- a time of a units of 2 ^ -149
pub record Units (x : Float) (a : ℕ) : Type 0 where
  pub some : 0 < a
  pub most : a ≤ 2 ^ 163
  pub ticks : nearest (a * 6144000) (2 ^ 149) ≡ ticks_in x

pub units : (x : Float) (s : Bool) (a : ℕ) → lt zero_f x ≡ true → le x latest ≡ true → HasValue x s a (2 ^ 149) → Units x a
unfolding ticks_in
units x s a p q h =
    let o = above_zero x p q in
    let v = clear x s a (2 ^ 149) o h in
    let k : num x * 2 ^ 149 ≡ a * den x = value→cross x a (2 ^ 149) v in
    let u : a * 6144000 * den x ≡ num x * 6144000 * 2 ^ 149 = mul_right_comm a 6144000 (den x) ∙ ap (λ (n : ℕ). n * 6144000) (sym k) ∙ mul_right_comm (num x) (2 ^ 149) 6144000 in
    let m : a * 1 ≤ 2 ^ 14 * 2 ^ 149 = values_of_le x latest a (2 ^ 149) (2 ^ 14) 1 o tt v (refl, refl) (passes _ q) in
    record {
      some = value_pos x a (2 ^ 149) o (pow_pos 149) v;
      most = subst (λ (n : ℕ). n ≤ 2 ^ 163) (native.Mathlib.Nat.mul-one a) m;
      ticks = nearest-cross (a * 6144000) (2 ^ 149) (num x * 6144000) (den x) (pow_pos 149) (den_pos x) u ∙ sym (ticks-num x o) ∙ sym (ap (λ (b : Bool). cond b (ticks_of x) 0) q);
    }

-- of its pattern's exponent e and digits d: a subnormal float has no hidden digit, and the exponent of the smallest normal one
module _ (x : Float) (e d : ℕ) (good : T (fits binary32 x)) (p : lt zero_f x ≡ true) (q : le x latest ≡ true)
    (he : e ≡ to_bits binary32 x % 2 ^ 31 / 2 ^ 23) (hd : d ≡ to_bits binary32 x % 2 ^ 23) where
  own : of_bits binary32 (to_bits binary32 x) ≡ x
  own = of_bits-to_bits binary32 x good

  pub low-units : e ≡ 0 → Units x (d * 2 ^ 0)
  low-units z =
      let b = to_bits binary32 x in
      units x (leb (2 ^ 31) b) (d * 2 ^ 0) p q
      (rw hd (subst (λ (y : Float). HasValue y (leb (2 ^ 31) b) (b % 2 ^ 23 * 2 ^ 0) (2 ^ 149)) own (low-pattern b (sym he ∙ z))))

  pub high-units : (e ≡ 0 → ⊥) → Units x ((8388608 + d) * 2 ^ (e - 1))
  high-units n =
      let b = to_bits binary32 x in
      let a = (8388608 + b % 2 ^ 23) * 2 ^ (b % 2 ^ 31 / 2 ^ 23 - 1) in
      let f : T (finite (of_bits binary32 b)) = subst (λ (y : Float). T (finite y)) (sym own) (positive-finite x (above_zero x p q)) in
      units x (leb (2 ^ 31) b) ((8388608 + d) * 2 ^ (e - 1)) p q
      (rw (hd, he) (subst (λ (y : Float). HasValue y (leb (2 ^ 31) b) a (2 ^ 149)) own (high-pattern b (λ z. n (he ∙ z)) f)))

-- ---- the other floats
same : (b : Bool) → ◌≡◌ {A = ℕ} 0 (cond b 0 0)
same true = refl
same false = refl

nothing : (d : ℕ) → 0 < d → 0 ≡ nearest 0 d
unfolding nearest
nothing d h = sym (div-eq_of_lt (omega arith))

pub not-above : (x : Float) → lt zero_f x ≡ false → 0 ≡ ticks_in x
unfolding ticks_in lt le ticks_of
not-above nan p = refl
not-above (inf true) p = refl
not-above (inf false) p = absurd (true≢false p)
not-above (fin true m e) p = same (le (fin true m e) latest)
not-above (fin false m e) p =
    let h : m * up e * 1 ≤ 0 * down e = ltb-false _ _ p in
    let z : m * up e ≡ 0 = omega arith in
    same (le (fin false m e) latest) ∙ ap (λ (n : ℕ). cond (le (fin false m e) latest) n 0) (nothing (down e) (down_pos e) ∙ ap (λ (n : ℕ). nearest n (down e)) (sym (ap (λ (k : ℕ). k * 6144000) z)))

pub too-late : (x : Float) → le x latest ≡ false → 0 ≡ ticks_in x
unfolding ticks_in
too-late x p = sym (ap (λ (b : Bool). cond b (ticks_of x) 0) p)

pub no_nan : (x : Float) → T (positive x) → T (not (is_nan x))
unfolding is_nan
no_nan nan p = absurd p
no_nan (inf s) p = absurd p
no_nan (fin s m e) p = tt
