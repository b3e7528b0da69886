-- What a number in text means is nearer to its fraction than every other float (`MeansNearest`). Assumes nothing.
use Prim.Native.Nat.{ℕ, zero, suc, ◌+◌, ◌-◌, ◌*◌, ◌/◌, ◌%◌, ◌^◌, ◌≤◌, ◌<◌}
use mathlib.Core.Path.{◌≡◌, refl, sym, ap, ◌∙◌, subst}
use mathlib.Core.Logic.{◌⊎◌, inl, inr}
use mathlib.Core.Bool.{Bool, true, false, not, ◌&&◌, ◌||◌, beq, true≢false}
use native.Mathlib.Nat.{le_trans, le_of_eq, le_of_lt, lt_of_lt_of_le, lt_irrefl, zero-mul, one-mul, mul_comm, mul_assoc, mul_right_comm, mul-le-mul_left, mul-le-mul_right, mul-lt-mul_of_pos_right, lt_of_mul-lt-mul_right, le-div_iff_mul-le, div-add-mod', add-mul, mul-pos, eq_of_mul-eq-mul_left, zero-mod, mul-sub}
use native.Mathlib.Omega.{arith}
use borrow.Author.Tests.{eq-eqb, eqb-true, eqb-false}
use lib.Dec.{T, lit≤, eqb, leb, leb→le, nleb→lt}
use lib.Pow.{pow-add, pow_pos, pow_mono}
use lib.Ieee.{Float, nan, inf, fin, binary32, up, down, size, round, neg, eq, fits}
use lib.Ieee.Digits.{size_reaches}
use lib.Ieee.Exact.{HasValue}
use lib.Ieee.Fits.{down_pos, round-fits}
use lib.Ieee.Order.{drop, kept}
use lib.Ieee.Positive.{den}
use lib.Ieee.Scale.{grid, normal_of_fraction, finite}
use Rattle.text_numerals.specs.Numeral.{most_number, most_decimals, float_of}
use Rattle.text_numerals.specs.Nearest.{sign_of, apart, Nearest, MeansNearest}
use Rattle.text_numerals.proofs.Closest.{gap, nearest-whole, no-half}
use Rattle.text_numerals.proofs.Quotient.{ten-pos, ten-mono}
use Rattle.text_numerals.proofs.Signs.{minus-float}
use Rattle.text_numerals.proofs.Units.{Fraction, swap, value, sign-of-round, finite-value, units_of}

-- ---- no tie

-- where 24 digits are kept or more, the fraction is at least 2 ^ 23 of the last kept place
full : (n c : ℕ) → 0 < c → 24 ≤ size (n * 2 ^ 149 / c) → 2 ^ 23 * (c * 2 ^ drop 24 (n * 2 ^ 149) c) ≤ n * 2 ^ 149
full n c C h =
    let z = size (n * 2 ^ 149 / c) in
    let k = z - 24 in
    let l : 23 + k < z = omega arith in
    le_trans (le_of_eq (swap (2 ^ 23) c k ∙ ap (λ (x : ℕ). x * c) (sym (pow-add 2 23 k)))) ((le-div_iff_mul-le C).0 (size_reaches (n * 2 ^ 149 / c) (23 + k) l))

large : (n c : ℕ) → 0 < n → c ≤ 1000 → 2 ^ 23 * c ≤ n * 2 ^ 149
large n c N L =
    le_trans (mul-le-mul_left (2 ^ 23) L) (le_trans (lit≤ tt) (le_trans (le_of_eq (sym (one-mul (2 ^ 149)))) (mul-le-mul_right (2 ^ 149) N)))

twice : (q b a r : ℕ) → q * b + r ≡ a → r * 2 ≡ b → (q * 2 + 1) * b ≡ a * 2
twice q b a r e f = omega arith

no_tie : (n c : ℕ) → Fraction n c → n * 2 ^ 149 % (c * 2 ^ drop 24 (n * 2 ^ 149) c) * 2 ≡ c * 2 ^ drop 24 (n * 2 ^ 149) c → ⊥
no_tie zero c f e =
    let b = c * 2 ^ drop 24 (0 * 2 ^ 149) c in
    lt_irrefl 0
    (subst (λ (x : ℕ). 0 < x) (sym (ap (λ (x : ℕ). x % b * 2) (sym (zero-mul (2 ^ 149))) ∙ e) ∙ ap (λ (x : ℕ). x * 2) (zero-mod b))
    (mul-pos f.some (pow_pos (drop 24 (0 * 2 ^ 149) c))))
no_tie (suc n) c f e =
    let a = suc n * 2 ^ 149 in
    let k = drop 24 a c in
    let b = c * 2 ^ k in
    let N : 0 < suc n = omega arith in
    let g : 2 ^ 23 ≤ a / b = (le-div_iff_mul-le (mul-pos f.some (pow_pos k))).1
    (full (suc n) c f.some (normal_of_fraction binary32 (suc n) c f.some (large (suc n) c N f.most))) in
    no-half 150 (suc n) (a / b) b N (omega (arith, f.below)) (twice (a / b) b a (a % b) (div-add-mod' a b) e ∙ mul_assoc (suc n) (2 ^ 149) 2)

-- ---- no other number of units is as near
apart-less : (a y w g : ℕ) → y < w → w ≤ a → g ≤ gap a w → g < gap a y
apart-less a y w g h k l = omega arith

nearer-units : (n c q j : ℕ) → Fraction n c → q < 2 ^ 24 → (grid binary32 n c ≡ q * 2 ^ j → ⊥)
    → gap (n * 2 ^ 149) (grid binary32 n c * c) < gap (n * 2 ^ 149) (q * 2 ^ j * c)
nearer-units n c q j f few ne = subst (λ (x : ℕ). gap a x < gap a (q * 2 ^ j * c)) (swap z c k) (by (leb k j) (leb→le k j) (nleb→lt k j))
  where
    a : ℕ
    a = n * 2 ^ 149

    k : ℕ
    k = drop 24 (n * 2 ^ 149) c

    z : ℕ
    z = kept 24 (n * 2 ^ 149) c

    nearer : (y : ℕ) → (z ≡ y → ⊥) → gap a (z * (c * 2 ^ k)) < gap a (y * (c * 2 ^ k))
    nearer y h = nearest-whole a (c * 2 ^ k) y (mul-pos f.some (pow_pos k)) (no_tie n c f) h

    by : (t : Bool) → (T t → k ≤ j) → (T (not t) → j < k) → gap a (z * (c * 2 ^ k)) < gap a (q * 2 ^ j * c)
    by true l m =
        let e : q * 2 ^ (j - k) * 2 ^ k ≡ q * 2 ^ j =
        mul_assoc q (2 ^ (j - k)) (2 ^ k) ∙ ap (λ (x : ℕ). q * x) (sym (pow-add 2 (j - k) k) ∙ ap (λ (x : ℕ). 2 ^ x) (let e : j - k + k ≡ j = omega (arith, l tt) in e))
        in
        subst (λ (x : ℕ). gap a (z * (c * 2 ^ k)) < gap a x) (swap (q * 2 ^ (j - k)) c k ∙ ap (λ (x : ℕ). x * c) e)
        (nearer (q * 2 ^ (j - k)) (λ (w : z ≡ q * 2 ^ (j - k)). ne (ap (λ (x : ℕ). x * 2 ^ k) w ∙ e)))
    by false l m =
        let g : 2 ^ 23 * (c * 2 ^ k) ≤ a = full n c f.some (let e : 24 ≤ size (a / c) = omega (arith, m tt) in e) in
        let y : q * 2 ^ j < 2 ^ 23 * 2 ^ k =
        lt_of_lt_of_le (mul-lt-mul_of_pos_right few (pow_pos j))
        (le_trans (le_of_eq (sym (pow-add 2 24 j))) (le_trans (pow_mono (let e : 24 + j ≤ 23 + k = omega (arith, m tt) in e)) (le_of_eq (pow-add 2 23 k)))) in
        let v : q * 2 ^ j * c < 2 ^ 23 * (c * 2 ^ k) = lt_of_lt_of_le (mul-lt-mul_of_pos_right y f.some) (le_of_eq (sym (swap (2 ^ 23) c k))) in
        apart-less a (q * 2 ^ j * c) (2 ^ 23 * (c * 2 ^ k)) (gap a (z * (c * 2 ^ k))) v g (at_most (eqb z (2 ^ 23)) refl)
      where
        at_most : (t : Bool) → eqb z (2 ^ 23) ≡ t → gap a (z * (c * 2 ^ k)) ≤ gap a (2 ^ 23 * (c * 2 ^ k))
        at_most true e = le_of_eq (ap (λ (x : ℕ). gap a (x * (c * 2 ^ k))) (eqb-true z (2 ^ 23) e))
        at_most false e = le_of_lt (nearer (2 ^ 23) (eqb-false z (2 ^ 23) e))

-- ---- from units to the floats themselves
sub-times : (a b k : ℕ) → (a - b) * k ≡ a * k - b * k
sub-times a b k = cc (mul_comm (a - b) k, mul-sub k a b, mul_comm k a, mul_comm k b)

gap-times : (a b k : ℕ) → gap a b * k ≡ gap (a * k) (b * k)
gap-times a b k = rw (← sub-times a b k, ← sub-times b a k) (add-mul (a - b) (b - a) k)

times-units : (v c u d p : ℕ) → v * p ≡ u * d → v * c * p ≡ u * c * d
times-units v c u d p e = omega (arith, ap (λ (x : ℕ). x * c) e)

gap-units : (n v c u d p : ℕ) → v * p ≡ u * d → gap (n * d) (v * c) * p ≡ gap (n * p) (u * c) * d
gap-units n v c u d p e =
    gap-times (n * d) (v * c) p ∙ (λ i. gap (mul_right_comm n d p i) (times-units v c u d p e i)) ∙ sym (gap-times (n * p) (u * c) d)

sum-units : (n v c u d p : ℕ) → v * p ≡ u * d → (n * d + v * c) * p ≡ (n * p + u * c) * d
sum-units n v c u d p e = omega (arith, times-units v c u d p e)

carry : (f g x y d e p : ℕ) → f * p ≡ x * d → g * p ≡ y * e → x < y → 0 < d → 0 < e → f * e < g * d
carry f g x y d e p a b h D E =
    let l = mul-lt-mul_of_pos_right (mul-lt-mul_of_pos_right h D) E in
    lt_of_mul-lt-mul_right p (omega (arith, ap (λ (z : ℕ). z * e) a, ap (λ (z : ℕ). z * d) b))

-- one number of units, one number
cross : (v w u d e p : ℕ) → 0 < p → v * p ≡ u * d → w * p ≡ u * e → v * e ≡ w * d
cross v w u d e p P a b = eq_of_mul-eq-mul_left p P (v * e) (w * d) (omega (arith, ap (λ (z : ℕ). z * e) a, ap (λ (z : ℕ). z * d) b))

level-true : (a b : ℕ) (s : Bool) → a ≡ b → (s ≡ false) ⊎ (a ≡ 0) → (eqb a b && (beq false s || eqb a 0)) ≡ true
level-true a b s e (inl f) = rw (f, eq-eqb a b e)
level-true a b false e (inr f) = rw (eq-eqb a b e)
level-true a b true e (inr f) = rw (eq-eqb a b e, eq-eqb a 0 f)

gap-le : (a b : ℕ) → gap a b ≤ a + b
gap-le a b = omega arith

gap-zero : (a z b : ℕ) → z ≡ 0 → gap a z ≤ a + b
gap-zero a z b e = omega arith

-- a float below zero is farther still
beyond : (n c q j : ℕ) → Fraction n c → q < 2 ^ 24 → (grid binary32 n c ≡ 0 → q * 2 ^ j ≡ 0 → ⊥) → gap (n * 2 ^ 149) (grid binary32 n c * c) < n * 2 ^ 149 + q * 2 ^ j * c
beyond n c q j f few k = go (eqb (grid binary32 n c) 0) refl
  where
    go : (t : Bool) → eqb (grid binary32 n c) 0 ≡ t → gap (n * 2 ^ 149) (grid binary32 n c * c) < n * 2 ^ 149 + q * 2 ^ j * c
    go true e =
        let z : grid binary32 n c ≡ 0 = eqb-true (grid binary32 n c) 0 e in
        lt_of_lt_of_le (nearer-units n c q j f few (λ (r : grid binary32 n c ≡ q * 2 ^ j). k z (sym r ∙ z))) (gap-le (n * 2 ^ 149) (q * 2 ^ j * c))
    go false e =
        let z : 0 * 2 ^ 0 ≡ 0 = refl in
        lt_of_lt_of_le (nearer-units n c 0 0 f (lit≤ tt) (λ (r : grid binary32 n c ≡ 0 * 2 ^ 0). eqb-false (grid binary32 n c) 0 e (r ∙ z)))
        (gap-zero (n * 2 ^ 149) (0 * 2 ^ 0 * c) (q * 2 ^ j * c) (zero-mul c))

zero-value : (v u d p : ℕ) → 0 < p → v * p ≡ u * d → u ≡ 0 → v ≡ 0
zero-value v u d p P a b = eq_of_mul-eq-mul_left p P v 0 (omega (arith, ap (λ (z : ℕ). z * d) b))

nearer-at : (n c : ℕ) → Fraction n c → (x y : Float) → HasValue x false (grid binary32 n c) (2 ^ 149) → T (fits binary32 y) → T (finite y)
    → eq x y ≡ false → apart false n c x * den y < apart false n c y * den x
unfolding eq apart
nearer-at n c l nan y v t f e = absurd v
nearer-at n c l (inf s) y v t f e = absurd v
nearer-at n c l (fin true m d) y v t f e = absurd (true≢false v.0)
nearer-at n c l (fin false m d) nan v t f e = absurd f
nearer-at n c l (fin false m d) (inf s) v t f e = absurd f
nearer-at n c l (fin false m d) (fin false w g) v t f e =
    let u = units_of false w g t in
    let y = u.digits * 2 ^ u.shift in
    let p = 2 ^ 149 in
    let ne : grid binary32 n c ≡ y → ⊥ = λ (q : grid binary32 n c ≡ y).
    true≢false (sym (level-true (m * up d * down g) (w * up g * down d) false
    (cross (m * up d) (w * up g) y (down d) (down g) p (pow_pos 149) (v.1 ∙ ap (λ (z : ℕ). z * down d) q) u.is) (inl refl)) ∙ e) in
    carry (gap (n * down d) (m * up d * c)) (gap (n * down g) (w * up g * c)) (gap (n * p) (grid binary32 n c * c)) (gap (n * p) (y * c)) (down d) (down g) p
    (gap-units n (m * up d) c (grid binary32 n c) (down d) p v.1) (gap-units n (w * up g) c y (down g) p u.is)
    (nearer-units n c u.digits u.shift l u.few ne) (down_pos d) (down_pos g)
nearer-at n c l (fin false m d) (fin true w g) v t f e =
    let u = units_of true w g t in
    let y = u.digits * 2 ^ u.shift in
    let p = 2 ^ 149 in
    let both : grid binary32 n c ≡ 0 → y ≡ 0 → ⊥ = λ a b.
    let z : m * up d * down g ≡ 0 = ap (λ (z : ℕ). z * down g) (zero-value (m * up d) (grid binary32 n c) (down d) p (pow_pos 149) v.1 a) ∙ zero-mul (down g) in
    let o : w * up g * down d ≡ 0 = ap (λ (z : ℕ). z * down d) (zero-value (w * up g) y (down g) p (pow_pos 149) u.is b) ∙ zero-mul (down d) in
    true≢false (sym (level-true (m * up d * down g) (w * up g * down d) true (z ∙ sym o) (inr z)) ∙ e) in
    carry (gap (n * down d) (m * up d * c)) (n * down g + w * up g * c) (gap (n * p) (grid binary32 n c * c)) (n * p + y * c) (down d) (down g) p
    (gap-units n (m * up d) c (grid binary32 n c) (down d) p v.1) (sum-units n (w * up g) c y (down g) p u.is)
    (beyond n c u.digits u.shift l u.few both) (down_pos d) (down_pos g)

nearest-round : (n c : ℕ) → Fraction n c → Nearest false n c (round binary32 false n c)
nearest-round n c f =
    let v = value false n c f in
    record {
      held = round-fits binary32 false n c;
      number = finite-value (round binary32 false n c) false (grid binary32 n c) (2 ^ 149) v;
      sign = sign-of-round false n c f;
      nearer = λ y t g e. nearer-at n c f (round binary32 false n c) y v t g e;
    }

-- ---- a minus: everything on the other side of zero

neg-finite : (y : Float) → T (finite y) → T (finite (neg y))
unfolding neg
neg-finite nan f = f
neg-finite (inf s) f = f
neg-finite (fin s m e) f = f

neg-fits : (y : Float) → T (fits binary32 y) → T (fits binary32 (neg y))
unfolding neg fits
neg-fits nan f = f
neg-fits (inf s) f = f
neg-fits (fin s zero e) f = f
neg-fits (fin s (suc m) e) f = f

neg-sign : (x : Float) → T (finite x) → sign_of x ≡ false → sign_of (neg x) ≡ true
unfolding neg sign_of
neg-sign nan f e = absurd f
neg-sign (inf s) f e = absurd f
neg-sign (fin s m d) f e = ap not e

neg-eq : (x y : Float) → T (finite x) → T (finite y) → eq x (neg y) ≡ eq (neg x) y
unfolding neg eq
neg-eq nan y f g = absurd f
neg-eq (inf s) y f g = absurd f
neg-eq (fin s m d) nan f g = absurd g
neg-eq (fin s m d) (inf t) f g = absurd g
neg-eq (fin false m d) (fin false w e) f g = refl
neg-eq (fin false m d) (fin true w e) f g = refl
neg-eq (fin true m d) (fin false w e) f g = refl
neg-eq (fin true m d) (fin true w e) f g = refl

neg-nearer : (n c : ℕ) (x y : Float) → T (finite x) → T (finite y) → apart false n c x * den (neg y) < apart false n c (neg y) * den x
    → apart true n c (neg x) * den y < apart true n c y * den (neg x)
unfolding neg apart
neg-nearer n c nan y f g h = absurd f
neg-nearer n c (inf s) y f g h = absurd f
neg-nearer n c (fin s m d) nan f g h = absurd g
neg-nearer n c (fin s m d) (inf t) f g h = absurd g
neg-nearer n c (fin false m d) (fin false w e) f g h = h
neg-nearer n c (fin false m d) (fin true w e) f g h = h
neg-nearer n c (fin true m d) (fin false w e) f g h = h
neg-nearer n c (fin true m d) (fin true w e) f g h = h

nearest-neg : (n c : ℕ) (x : Float) → Nearest false n c x → Nearest true n c (neg x)
nearest-neg n c x p = record {
  held = neg-fits x p.held;
  number = neg-finite x p.number;
  sign = neg-sign x p.number p.sign;
  nearer = λ y t g e. neg-nearer n c x y p.number g (p.nearer (neg y) (neg-fits y t) (neg-finite y g) (neg-eq x y p.number g ∙ e));
}

means-plain : (n d : ℕ) → n < most_number → d ≤ most_decimals → Nearest false n (10 ^ d) (float_of false n d)
unfolding float_of
means-plain n d h k = nearest-round n (10 ^ d) (record { below = h; some = ten-pos d; most = ten-mono k })

pub means-nearest : MeansNearest
means-nearest false n d h k = means-plain n d h k
means-nearest true n d h k = subst (Nearest true n (10 ^ d)) (minus-float n d) (nearest-neg n (10 ^ d) (float_of false n d) (means-plain n d h k))
