-- `int`: a float of 2^23 or more in size has no fraction. Below, the sum with 2^23 is the whole part or one more, and a comparison tells which. Assumes nothing.
use Rattle.std.proofs.Common.{◌≡◌, ℕ, zero, suc, ◌+◌, ◌-◌, ◌*◌, ◌/◌, ◌%◌, ◌^◌, ◌<◌, ◌≤◌, Bool, true, false, cond, ◌&&◌, T, eqb, ltb, leb, ◌⊎◌, ℤ, pos, negsuc, sym, refl, ap, ◌∙◌, subst, inl, inr, ⊎_elim, true≢false, le_refl, mul-le-mul_right, zero-lt-suc, mul_assoc, mul_comm, div-lt_iff_lt-mul, add-mul, eq-or-lt_of_le, mul-le-mul_left, mul-lt-mul_of_pos_right, mul-pos, one-mul, pow-suc, zero-mul, mul-one, mul_right_comm, div-mul-le_self, div-one, arith, lit≤, ltb→lt, pow_pos, pow-add, ltb-false, ltb-true, le-ltb, lt-ltb, ne_eqb}
use native.Mathlib.Nat.{mul-sub}
use borrow.Table.Steps.{cases}
use lib.Dec.{eqb-suc-zero}
use lib.Ieee.{Float, nan, inf, fin, fits, lt, add, sub, neg, round, of_bits, binary32, up, down}
use lib.Ieee.Back.{whole_unique, round_whole}
use lib.Ieee.Exact.{HasValue, round_exact}
use lib.Ieee.Fits.{up_pos, down_pos, round-fits}
use lib.Ieee.Order.{round_mono}
use lib.Ieee.Positive.{num, den, positive, own_value, positive_of_value, between, values_of_le}
use lib.Ieee.Scale.{round_same}
use Rattle.base_float32.specs.Builtins.{int_of, flag_of, zero_f}

-- 2^23, from which on a float is whole
abbrev big : Float
big = fin false 1 (pos 23)

abbrev whole : ℕ → ℤ → ℕ
whole m e = m * up e / down e

-- the parts of `fits`, for m above 0
parts : (a b c d : Bool) → T (a && b && c && d) → T b × T d
parts true true true true t = (tt, tt)
parts false b c d t = elim t [ ]
parts true false c d t = elim t [ ]
parts true true false d t = elim t [ ]
parts true true true false t = elim t [ ]

fits-parts : (s : Bool) (m : ℕ) (e : ℤ) → T (fits binary32 (fin s m e)) → (m < 2 ^ 24) × (m * up e < 2 ^ 128 * down e)
unfolding fits
fits-parts s zero e t = (omega arith, rw zero-mul (mul-pos (pow_pos 128) (down_pos e)))
fits-parts s (suc m) e t =
    let p = parts (eqb (suc m % 2) 1) (ltb (suc m) (2 ^ 24)) (leb (down e) (2 ^ 149)) (ltb (suc m * up e) (2 ^ 128 * down e)) t in
    (ltb→lt (suc m) (2 ^ 24) p.0, ltb→lt (suc m * up e) (2 ^ 128 * down e) p.1)

-- a whole number of the format is the float of its whole part
is_whole : (s : Bool) (m j : ℕ) → T (fits binary32 (fin s m (pos j))) → round binary32 s (m * 2 ^ j) 1 ≡ fin s m (pos j)
is_whole s m j t =
    let v = m * 2 ^ j in
    let e : v * 2 ^ 149 ≡ m * 2 ^ (j + 149) * 1 = rw (mul-one, pow-add, mul_assoc) in
    let b : m * 2 ^ (j + 149) < 2 ^ (149 + 128) =
    rw (pow-add 2 j 149, ← mul_assoc) (mul-lt-mul_of_pos_right (fits-parts s m (pos j) t).1 (pow_pos 149)) in
    whole_unique binary32 (round binary32 s v 1) (fin s m (pos j)) s v (round-fits binary32 s v 1) t
    (round_exact binary32 s v 1 m (j + 149) (omega arith) (fits-parts s m (pos j) t).0 b e)
    (refl, refl)

own-large : (s : Bool) (m : ℕ) (e : ℤ) → T (fits binary32 (fin s m e)) → 1 * 2 ^ 23 * down e ≤ m * up e * 1 → fin s m e ≡ int_of (fin s m e)
unfolding int_of
own-large s m (negsuc k) t h =
    let p : 2 ^ suc k ≡ 2 ^ k * 2 = pow-suc 2 k in
    absurd (omega (arith, (fits-parts s m (negsuc k) t).0, pow_pos k))
own-large s m (pos j) t h =
    let ne : m * 2 ^ j ≡ 0 → ⊥ = λ z. omega arith in
    rw (div-one, ne_eqb _ _ ne, is_whole s m j t)

-- ---- the difference of two whole numbers is exact
-- a float of the value a, over a common denominator
over : (x p a q : ℕ) → x * 1 ≡ a * p → x * q ≡ p * q * a
over x p a q h = cc (mul-one x, mul_assoc a p q, mul_comm a (p * q))

sub-whole : (x y : Float) (a b : ℕ) → HasValue x false a 1 → HasValue y false b 1 → b ≤ a → sub binary32 x y ≡ round binary32 false (a - b) 1
unfolding sub
sub-whole (fin true m e) y a b h k l = absurd (true≢false h.0)
sub-whole (fin false m e) (fin true n d) a b h k l = absurd (true≢false k.0)
sub-whole (fin false m e) (fin false n d) a b h k l =
    let c = down e * down d in
    let x : m * up e * down d ≡ c * a = over (m * up e) (down e) a (down d) h.1 in
    let y : n * up d * down e ≡ c * b = over (n * up d) (down d) b (down e) k.1 ∙ ap (λ (z : ℕ). z * b) (mul_comm (down d) (down e)) in
    let o : n * up d * down e ≤ m * up e * down d = rw (x, y) (mul-le-mul_left c l) in
    rw (le-ltb _ _ o)
    (round_same binary32 false (m * up e * down d - n * up d * down e) c (a - b) 1 (mul-pos (down_pos e) (down_pos d)) (lit≤ tt)
    (cc (mul-one (m * up e * down d - n * up d * down e), mul-sub c a b, mul_comm c (a - b))))
sub-whole nan y a b h k l = elim h [ ]
sub-whole (inf _) y a b h k l = elim h [ ]
sub-whole (fin false m e) nan a b h k l = elim k [ ]
sub-whole (fin false m e) (inf _) a b h k l = elim k [ ]

-- 0 less a whole number; the zero is +0
minus-whole : (y : Float) (n : ℕ) → HasValue y false n 1 → sub binary32 zero_f y ≡ cond (eqb n 0) zero_f (round binary32 true n 1)
unfolding sub of_bits
minus-whole (fin true k d) n v = absurd (true≢false v.0)
minus-whole (fin false k d) zero v =
    let z : k * up d ≡ 0 = sym (mul-one (k * up d)) ∙ v.1 ∙ zero-mul (down d) in
    rw (zero-mul, z) (round_same binary32 false 0 (1 * down d) 0 1 (mul-pos (lit≤ tt) (down_pos d)) (lit≤ tt) (sym (zero-mul (1 * down d))))
minus-whole (fin false k d) (suc n) v =
    let o : 0 * down d < k * up d * 1 = rw (zero-mul, v.1) (mul-pos (zero-lt-suc n) (down_pos d)) in
    let w : (k * up d * 1 - 0 * down d) * 1 ≡ suc n * (1 * down d) = rw one-mul (omega (arith, v.1, zero-mul (down d))) in
    rw (lt-ltb _ _ o, eqb-suc-zero) (round_same binary32 true (k * up d * 1 - 0 * down d) (1 * down d) (suc n) 1 (mul-pos (lit≤ tt) (down_pos d)) (lit≤ tt) w)
minus-whole nan n v = elim v [ ]
minus-whole (inf _) n v = elim v [ ]

-- ---- a float against a whole number
across : (k : ℕ) (d : ℤ) (n c : ℕ) → k * up d * 1 ≡ n * down d → k * up d * c ≡ n * c * down d
across k d n c h = cc (mul-one (k * up d), mul_right_comm n (down d) c)

below-whole : (m : ℕ) (e : ℤ) (y : Float) (n : ℕ) → HasValue y false n 1 → m * up e < n * down e → lt (fin false m e) y ≡ true
unfolding lt
below-whole m e (fin true k d) n v h = absurd (true≢false v.0)
below-whole m e (fin false k d) n v h = lt-ltb (m * up e * down d) (k * up d * down e) (rw (across k d n (down e) v.1) (mul-lt-mul_of_pos_right h (down_pos d)))
below-whole m e nan n v h = elim v [ ]
below-whole m e (inf _) n v h = elim v [ ]

from-whole : (m : ℕ) (e : ℤ) (y : Float) (n : ℕ) → HasValue y false n 1 → n * down e ≤ m * up e → lt (fin false m e) y ≡ false
unfolding lt
from-whole m e (fin true k d) n v h = absurd (true≢false v.0)
from-whole m e (fin false k d) n v h = le-ltb (m * up e * down d) (k * up d * down e) (rw (across k d n (down e) v.1) (mul-le-mul_right (down d) h))
from-whole m e nan n v h = elim v [ ]
from-whole m e (inf _) n v h = elim v [ ]

-- ---- the sum with 2^23
-- from 2^23 on a float is whole, so that between a number and the next it is one of them
settled : (r : Float) (q s : ℕ) → s ≡ suc q → T (fits binary32 r) → T (positive r) → 2 ^ 23 ≤ q → q * den r ≤ num r * 1 → num r * 1 ≤ s * den r → HasValue r false q 1 ⊎ HasValue r false s 1
settled nan q s o t p b l u = absurd p
settled (inf i) q s o t p b l u = absurd p
settled (fin true m e) q s o t p b l u = absurd p
settled (fin false m (negsuc k)) q s o t p b l u =
    let g : 2 ^ 23 * 2 ^ suc k ≤ q * 2 ^ suc k = mul-le-mul_right (2 ^ suc k) b in
    let w : 2 ^ suc k ≡ 2 ^ k * 2 = pow-suc 2 k in
    absurd (omega (arith, (fits-parts false m (negsuc k) t).0, pow_pos k))
settled (fin false m (pos j)) q s o t p b l u = ⊎_elim (λ e. inl (refl, sym e)) (λ h. inr (refl, omega arith)) (eq-or-lt_of_le l)

sum-whole : (m : ℕ) (e : ℤ) → m * up e < 2 ^ 23 * down e
    → HasValue (add binary32 (fin false m e) big) false (2 ^ 23 + whole m e) 1 ⊎ HasValue (add binary32 (fin false m e) big) false (2 ^ 23 + suc (whole m e)) 1
unfolding add
sum-whole m e h =
    let v = whole m e in
    let q = 2 ^ 23 + v in
    let s = 2 ^ 23 + suc v in
    let n = m * up e * 1 + 1 * 2 ^ 23 * down e in
    let c = down e * 1 in
    let C : 0 < c = mul-pos (down_pos e) (lit≤ tt) in
    let b : v < 2 ^ 23 = (div-lt_iff_lt-mul (down_pos e)).1 h in
    let times : (k : ℕ) → (2 ^ 23 + k) * c ≡ 2 ^ 23 * down e + k * down e = λ k. ap (λ (z : ℕ). (2 ^ 23 + k) * z) (mul-one (down e)) ∙ add-mul (2 ^ 23) k (down e) in
    let l : q * c ≤ n * 1 = omega (arith, times v, div-mul-le_self (m * up e) (down e)) in
    let a : m * up e < suc v * down e = (div-lt_iff_lt-mul (down_pos e)).0 (le_refl (suc v)) in
    let u : n * 1 ≤ s * c = omega (arith, times (suc v)) in
    let x = round_whole binary32 false q (omega arith) in
    let y = round_whole binary32 false s (omega arith) in
    let P = positive_of_value (round binary32 false q 1) q 1 x (omega arith) in
    let Q = positive_of_value (round binary32 false s 1) s 1 y (omega arith) in
    let f = round_mono binary32 q 1 n c (lit≤ tt) C l in
    let g = round_mono binary32 n c s 1 C (lit≤ tt) u in
    let r = round binary32 false n c in
    let p = between (round binary32 false q 1) r (round binary32 false s 1) P Q f g in
    settled r q s (omega arith) (round-fits binary32 false n c) p (omega arith)
    (values_of_le (round binary32 false q 1) r q 1 (num r) (den r) P p x (own_value r p) f)
    (values_of_le r (round binary32 false s 1) (num r) (den r) s 1 p Q (own_value r p) y g)

-- ---- the code, and what it gives
-- the nearest whole number, and the whole part
abbrev near : Float → Float
near a = sub binary32 (add binary32 a big) big

abbrev dropped : Float → Float
dropped a = sub binary32 (near a) (flag_of (lt a (near a)))

near-is : (s : Float) (n : ℕ) → HasValue s false (2 ^ 23 + n) 1 → sub binary32 s big ≡ round binary32 false n 1
near-is s n v =
    let o : 2 ^ 23 + n - 2 ^ 23 ≡ n = omega arith in
    sub-whole s big (2 ^ 23 + n) (2 ^ 23) v (refl, refl) (omega arith) ∙ ap (λ (z : ℕ). round binary32 false z 1) o

dropped-at : (m : ℕ) (e : ℤ) (n k v : ℕ) (b : Bool) → HasValue (add binary32 (fin false m e) big) false (2 ^ 23 + n) 1 → n ≤ 2 ^ 23 → lt (fin false m e) (round binary32 false n 1) ≡ b
    → HasValue (flag_of b) false k 1 → n ≡ v + k → dropped (fin false m e) ≡ round binary32 false v 1
dropped-at m e n k v b s h l w o =
    let d : n - k ≡ v = omega arith in
    rw (near-is (add binary32 (fin false m e) big) n s, l)
    (sub-whole (round binary32 false n 1) (flag_of b) n k (round_whole binary32 false n (omega arith)) w (omega arith) ∙ ap (λ (z : ℕ). round binary32 false z 1) d)

dropped-is : (m : ℕ) (e : ℤ) → m * up e < 2 ^ 23 * down e → dropped (fin false m e) ≡ round binary32 false (whole m e) 1
unfolding flag_of of_bits
dropped-is m e h =
    let v = whole m e in
    let b : v < 2 ^ 23 = (div-lt_iff_lt-mul (down_pos e)).1 h in
    ⊎_elim
    (λ s. dropped-at m e v 0 v false s (omega arith) (from-whole m e (round binary32 false v 1) v (round_whole binary32 false v (omega arith)) (div-mul-le_self (m * up e) (down e))) (refl, refl) (omega arith))
    (λ s. dropped-at m e (suc v) 1 v true s (omega arith) (below-whole m e (round binary32 false (suc v) 1) (suc v) (round_whole binary32 false (suc v) (omega arith)) ((div-lt_iff_lt-mul (down_pos e)).0 (le_refl (suc v)))) (refl, refl) (omega arith))
    (sum-whole m e h)

zero_is : (n : ℕ) → round binary32 false n 1 ≡ cond (eqb n 0) zero_f (round binary32 false n 1)
unfolding round of_bits
zero_is zero = refl
zero_is (suc n) = rw eqb-suc-zero

-- the whole part with its sign
signed_is : (s : Bool) (m : ℕ) (e : ℤ) → m * up e < 2 ^ 23 * down e → cond s (sub binary32 zero_f (dropped (fin false m e))) (dropped (fin false m e)) ≡ int_of (fin s m e)
unfolding int_of
signed_is false m e h = rw (dropped-is m e h) (zero_is (whole m e))
signed_is true m e h =
    let v = whole m e in
    let b : v < 2 ^ 23 = (div-lt_iff_lt-mul (down_pos e)).1 h in
    rw (dropped-is m e h) (minus-whole (round binary32 false v 1) v (round_whole binary32 false v (omega arith)))

-- of x, its magnitude a and whether it is below zero
abbrev worked : Float → Float → Bool → Float
worked x a b = cond (lt a big) (cond b (sub binary32 zero_f (dropped a)) (dropped a)) x

worked-is : (s : Bool) (m : ℕ) (e : ℤ) → T (fits binary32 (fin s m e)) → worked (fin s m e) (fin false m e) s ≡ int_of (fin s m e)
worked-is s m e t =
    cases (lt (fin false m e) big) (λ p. let h : m * up e * 1 < 1 * 2 ^ 23 * down e = unfold lt in ltb-true _ _ p in cc (signed_is s m e (omega arith)))
    (λ p. cc (own-large s m e t (unfold lt in ltb-false _ _ p)))

abbrev worked-out : Float → Float
worked-out x = worked x (cond (lt x zero_f) (neg x) x) (lt x zero_f)

-- -0 is not below zero
minus-zero : (e : ℤ) → T (fits binary32 (fin true zero e)) → worked-out (fin true zero e) ≡ int_of (fin true zero e)
unfolding lt add sub flag_of of_bits int_of fits
minus-zero e t =
    let v : zero * up e * 1 ≡ 0 * down e = mul-one _ ∙ zero-mul (up e) ∙ sym (zero-mul (down e)) in
    subst (λ (x : Float). worked-out x ≡ int_of x) (whole_unique binary32 (fin true zero (pos 0)) (fin true zero e) true 0 tt t (refl, refl) (refl, v)) refl

pub int_is : (x : Float) → T (fits binary32 x) → worked-out x ≡ int_of x
unfolding neg
int_is nan t = unfold lt int_of in refl
int_is (inf true) t = unfold lt int_of of_bits in refl
int_is (inf false) t = unfold lt int_of of_bits in refl
int_is (fin false m e) t =
    let l : lt (fin false m e) zero_f ≡ false = unfold of_bits in from-whole m e zero_f 0 (refl, refl) (omega (arith, zero-mul (down e))) in
    rw l (worked-is false m e t)
int_is (fin true zero e) t = minus-zero e t
int_is (fin true (suc m) e) t =
    let g : 0 < suc m * up e = mul-pos (zero-lt-suc m) (up_pos e) in
    let l : lt (fin true (suc m) e) zero_f ≡ true = unfold lt of_bits in lt-ltb 0 (suc m * up e * 1 + 0 * down e) (omega arith) in
    rw l (worked-is true (suc m) e t)
