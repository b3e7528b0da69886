-- Adding -0 changes no float of the format (adding +0 would make +0 of -0).
use Prim.Native.Nat.{ℕ, zero, suc, ◌+◌, ◌-◌, ◌*◌, ◌/◌, ◌%◌, ◌^◌, ◌≤◌, ◌<◌}
use native.Mathlib.Omega.{arith}
use native.Mathlib.Nat.{mul_comm, mul_assoc, mul_right_comm, mul-one, one-mul, zero-mul, add-zero, lt_irrefl, lt_of_lt_of_le, le_trans, mul-lt-mul_of_pos_right, zero-lt-suc, sub-zero, pow-succ', eq-zero-or-pos}
use mathlib.Core.Path.{◌≡◌, refl, sym, ap, ◌∙◌, subst}
use mathlib.Core.Logic.{⊎_elim}
use mathlib.Core.Bool.{Bool, true, false, cond, ◌&&◌}
use lib.IntN.{ℤ, pos, negsuc}
use lib.Dec.{T, eqb, ltb, leb, eqb→eq, ltb→lt, leb→le}
use lib.Pow.{pow-add, pow_pos, pow-lt, pow_mono, shl_lt}
use lib.Ieee.{Float, nan, inf, fin, Format, binary32, binary64, prec, emax, low, up, down, size, span, climb, units, odd, hid, top, sum, round, neg, add, fits, of_bits, to_bits}
use lib.Ieee.Fits.{round-fits, and_l, and_r, down_pos}
use lib.Ieee.Exact.{HasValue, round_exact}
use lib.Ieee.Bits.{of_bits-to_bits}
use lib.Ieee.Nearest.{div_same}
use borrow.Author.Tests.{le-ltb}
use Rattle.code_interpreter.specs.Run.{minus_zero}

no_power : (x y : ℕ) → x ≡ 2 * y → 0 < y → x ≡ 1 → ⊥
no_power x y e p h = omega arith

-- 2 ^ e is 1 / 1 only for e = 0
plain : (e : ℤ) → up e * down e ≡ 1 → e ≡ pos 0
plain (pos zero) h = refl
plain (pos (suc a)) h = absurd (no_power (2 ^ suc a) (2 ^ a) (pow-succ' 2 a) (pow_pos a) (sym (mul-one (2 ^ suc a)) ∙ h))
plain (negsuc a) h = absurd (no_power (2 ^ suc a) (2 ^ a) (pow-succ' 2 a) (pow_pos a) (sym (one-mul (2 ^ suc a)) ∙ h))

zero-rounds : (f : Format) (s : Bool) → round f s (0 * up (pos 0)) (down (pos 0)) ≡ fin s 0 (pos 0)
unfolding round size span climb units odd
zero-rounds binary32 s = refl
zero-rounds binary64 s = refl

module _ (f : Format) where
  bits_of : (s : Bool) (m : ℕ) (e : ℤ)
      → to_bits f (fin s m e)
      ≡ cond s (top f) 0 + (size (m * up e * 2 ^ low f / down e) - prec f) * hid f
      + m * up e * 2 ^ low f / down e / 2 ^ (size (m * up e * 2 ^ low f / down e) - prec f)
  unfolding to_bits
  bits_of s m e = refl

  same_bits : (s : Bool) (m : ℕ) (e : ℤ) (n : ℕ) (g : ℤ) → n * up g * down e ≡ m * up e * down g → to_bits f (fin s n g) ≡ to_bits f (fin s m e)
  same_bits s m e n g h =
      let l = 2 ^ low f in
      let x : n * up g * l * down e ≡ m * up e * l * down g = mul_right_comm (n * up g) l (down e) ∙ ap (λ (z : ℕ). z * l) h ∙ mul_right_comm (m * up e) (down g) l in
      let q : n * up g * l / down g ≡ m * up e * l / down e = div_same (n * up g * l) (down g) (m * up e * l) (down e) (down_pos g) (down_pos e) x in
      bits_of s n g ∙ ap (λ (z : ℕ). cond s (top f) 0 + (size z - prec f) * hid f + z / 2 ^ (size z - prec f)) q ∙ sym (bits_of s m e)

  -- two floats of the format with one value are one
  unique : (x : Float) (s : Bool) (m : ℕ) (e : ℤ) → T (fits f x) → T (fits f (fin s m e)) → HasValue x s (m * up e) (down e) → x ≡ fin s m e
  unique nan s m e p q v = absurd v
  unique (inf t) s m e p q v = absurd v
  unique (fin t n g) s m e p q v =
      sym (of_bits-to_bits f (fin t n g) p) ∙ ap (λ (b : Bool). of_bits f (to_bits f (fin b n g))) v.0 ∙ ap (of_bits f) (same_bits s m e n g v.1) ∙ of_bits-to_bits f (fin s m e) q

  wide : (f : Format) → prec f + low f ≤ low f + suc (emax f)
  wide binary32 = omega arith
  wide binary64 = omega arith

  own : (s : Bool) (m : ℕ) (e : ℤ) → suc m < 2 ^ prec f → down e ≤ 2 ^ low f → suc m * up e < 2 ^ suc (emax f) * down e
      → HasValue (round f s (suc m * up e) (down e)) s (suc m * up e) (down e)
  own s m (pos k) a b c =
      let l = low f in
      let x : suc m * 2 ^ k * 2 ^ l ≡ suc m * 2 ^ (k + l) = mul_assoc (suc m) (2 ^ k) (2 ^ l) ∙ ap (λ (z : ℕ). suc m * z) (sym (pow-add 2 k l)) in
      let y : suc m * 2 ^ (k + l) < 2 ^ (l + suc (emax f)) =
      subst (λ (z : ℕ). z < 2 ^ (l + suc (emax f))) x
      (subst (λ (z : ℕ). suc m * 2 ^ k * 2 ^ l < z) (ap (λ (z : ℕ). z * 2 ^ l) (mul-one (2 ^ suc (emax f))) ∙ mul_comm (2 ^ suc (emax f)) (2 ^ l) ∙ sym (pow-add 2 l (suc (emax f))))
      (mul-lt-mul_of_pos_right c (pow_pos l))) in
      round_exact f s (suc m * 2 ^ k) 1 (suc m) (k + l) (zero-lt-suc 0) a y (x ∙ sym (mul-one (suc m * 2 ^ (k + l))))
  own s m (negsuc k) a b c =
      let l = low f in
      let i : suc k ≤ l =
      ⊎_elim (λ h. omega arith) (λ h. let q : l < suc k = omega arith in absurd (lt_irrefl (2 ^ l) (lt_of_lt_of_le (pow-lt q) b))) (eq-zero-or-pos (suc k - l)) in
      let j = l - suc k in
      let ji : j + suc k ≡ l = omega arith in
      let x : suc m * 1 * 2 ^ l ≡ suc m * 2 ^ j * 2 ^ suc k =
      ap (λ (z : ℕ). z * 2 ^ l) (mul-one (suc m)) ∙ ap (λ (z : ℕ). suc m * 2 ^ z) (sym ji) ∙ ap (λ (z : ℕ). suc m * z) (pow-add 2 j (suc k)) ∙ sym (mul_assoc (suc m) (2 ^ j) (2 ^ suc k)) in
      let y : suc m * 2 ^ j < 2 ^ (l + suc (emax f)) = lt_of_lt_of_le (shl_lt (prec f) j a) (pow_mono (le_trans (omega arith) (wide f))) in
      round_exact f s (suc m * 1) (2 ^ suc k) (suc m) j (pow_pos (suc k)) a y x

  -- a float of the format is rounded to itself
  pub round-self : (s : Bool) (m : ℕ) (e : ℤ) → T (fits f (fin s m e)) → round f s (m * up e) (down e) ≡ fin s m e
  unfolding fits
  round-self s zero e h = let z = plain e (eqb→eq (up e * down e) 1 h) in ap (λ (g : ℤ). round f s (0 * up g) (down g)) z ∙ zero-rounds f s ∙ ap (fin s 0) (sym z)
  round-self s (suc m) e h =
      let A = eqb (suc m % 2) 1 in
      let B = ltb (suc m) (2 ^ prec f) in
      let C = leb (down e) (2 ^ low f) in
      let D = ltb (suc m * up e) (2 ^ suc (emax f) * down e) in
      unique (round f s (suc m * up e) (down e)) s (suc m) e (round-fits f s (suc m * up e) (down e)) h
      (own s m e (ltb→lt (suc m) (2 ^ prec f) (and_r A B (and_l (A && B) C (and_l (A && B && C) D h))))
      (leb→le (down e) (2 ^ low f) (and_r (A && B) C (and_l (A && B && C) D h)))
      (ltb→lt (suc m * up e) (2 ^ suc (emax f) * down e) (and_r (A && B && C) D h)))

-- x + -0 is x, for every x of the format: infinities, not-a-number and both zeros too
pub add-minus-zero : (x : Float) → T (fits binary32 x) → add binary32 x minus_zero ≡ x
unfolding add neg of_bits sum
add-minus-zero nan h = refl
add-minus-zero (inf s) h = refl
add-minus-zero (fin true m e) h =
    ap (λ (a : ℕ). round binary32 true a (down e * 1)) (ap (λ (b : ℕ). m * up e * 1 + b) (zero-mul (down e)) ∙ add-zero (m * up e * 1) ∙ mul-one (m * up e))
    ∙ ap (round binary32 true (m * up e)) (mul-one (down e)) ∙ round-self binary32 true m e h
add-minus-zero (fin false m e) h =
    rw (zero-mul (down e), mul-one (m * up e), mul-one (down e), le-ltb (m * up e) 0 (omega arith), sub-zero (m * up e)) (round-self binary32 false m e h)
