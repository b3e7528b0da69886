-- Which numbers can read as a float: only its product with 10 ^ d, the fraction dropped, and the next. Assumes nothing.
use Prim.Native.Nat.{ℕ, zero, suc, ◌+◌, ◌-◌, ◌*◌, ◌/◌, ◌%◌, ◌^◌, ◌≤◌, ◌<◌}
use mathlib.Core.Path.{◌≡◌, refl, sym, ap, ◌∙◌, subst}
use mathlib.Core.Logic.{◌⊎◌, inl, inr}
use mathlib.Core.Bool.{Bool, true, false, cond, true≢false}
use native.Mathlib.Nat.{le_trans, le_of_suc-le-suc, le_antisymm, lt_of_le_of_lt, lt_of_lt_of_le, eq-or-lt_of_le, mul_comm, mul_right_comm, mul-le-mul, mul-le-mul_left, mul-le-mul_right, mul-lt-mul_of_pos_right, lt_of_mul-lt-mul_right, mul-div-mul_right, div-eq_of_lt, div-mul-le_self, lt-div-mul-add, le-div_iff_mul-le, eq_of_mul-eq-mul_left, mod-lt, suc-mul}
use native.Mathlib.Omega.{arith}
use borrow.Author.Tests.{eq-eqb, eqb-true}
use lib.IntN.{ℤ}
use lib.Dec.{T, lit≤, eqb, leb}
use lib.Pow.{pow-add, pow_pos, pow_mono}
use lib.Ieee.{Float, nan, inf, fin, binary32, up, down, round, fits, eq, odd, of_fields, of_bits, to_bits, size, top, hid}
use lib.Ieee.Bits.{of_bits-to_bits}
use lib.Ieee.Exact.{HasValue, odd_sign}
use lib.Ieee.Fits.{down_pos, round-fits}
use lib.Ieee.Nearest.{div_same}
use lib.Ieee.Scale.{grid, finite}
use Rattle.base_laws.proofs.Choice.{both_true}
use Rattle.text_numerals.specs.Numeral.{most_number, most_decimals, float_of}
use Rattle.text_numerals.specs.Nearest.{sign_of}
use Rattle.text_numerals.specs.Shortest.{Reads}
use Rattle.text_numerals.proofs.Quotient.{ten-pos, ten-mono}
use Rattle.text_numerals.proofs.Units.{Fraction, close, value, sign-of-value, sign-of-round, finite-value}
use Rattle.text_number_writer.specs.Answers.{Around}

fraction : {n d : ℕ} → n < most_number → d ≤ most_decimals → Fraction n (10 ^ d)
fraction {d = d} h k = record { below = h; some = ten-pos d; most = ten-mono k }

-- ---- by the float's units
same_units : (x : Float) (s t : Bool) (a b p : ℕ) → HasValue x s a p → HasValue x t b p → a ≡ b
same_units nan s t a b p h k = absurd h
same_units (inf u) s t a b p h k = absurd h
same_units (fin u m e) s t a b p h k = eq_of_mul-eq-mul_left (down e) (down_pos e) a b (mul_comm (down e) a ∙ sym h.1 ∙ k.1 ∙ mul_comm b (down e))

-- less than one from a / p
between : (a n p : ℕ) → 0 < p → a < n * p + p → n * p < a + p → (n ≡ a / p) ⊎ (n ≡ suc (a / p))
between a n p P h k =
    let f = a / p in
    let lo : f ≤ n = le_of_suc-le-suc (lt_of_mul-lt-mul_right p (lt_of_le_of_lt (div-mul-le_self a p) (rw (suc-mul n p) h))) in
    let hi : n ≤ suc f = le_of_suc-le-suc (lt_of_mul-lt-mul_right p (rw (suc-mul (suc f) p, suc-mul f p) (omega (arith, lt-div-mul-add {a = a} {b = p} P)))) in
    elim (eq-or-lt_of_le lo) [ inl e ↦ inl (sym e) | inr l ↦ inr (le_antisymm hi l) ]

around-units : (x : Float) (s : Bool) (u d : ℕ) → d ≤ most_decimals → (T (finite x) → HasValue x s u (2 ^ 149)) → Around x d (u * 10 ^ d / 2 ^ 149)
unfolding Around float_of
around-units x s u d D v n h r =
    let c = 10 ^ d in
    let f : Fraction n c = fraction h D in
    let w : HasValue x (sign_of x) (grid binary32 n c) (2 ^ 149) = subst (λ (z : Float). HasValue z (sign_of x) (grid binary32 n c) (2 ^ 149)) r (value (sign_of x) n c f) in
    let e : grid binary32 n c ≡ u = same_units x (sign_of x) s _ u (2 ^ 149) w (v (finite-value x (sign_of x) _ (2 ^ 149) w)) in
    rw e at (between (grid binary32 n c * c) n (2 ^ 149) (pow_pos 149) (close n c f).0 (close n c f).1)

-- ---- by the fields of its bits
low_field : (s : Bool) (e t : ℕ) → e ≡ 0 → T (finite (of_fields binary32 s e t)) → HasValue (of_fields binary32 s e t) s (t * 2 ^ 0) (2 ^ 149)
unfolding of_fields
low_field s zero t z f = odd_sign 24 s t 0 149
low_field s (suc e) t z f = absurd (omega arith)

finite-pick : (p q s : Bool) (v : Float) (a c : ℕ) → T (finite (cond p (cond q (inf s) nan) v)) → HasValue v s a c → HasValue (cond p (cond q (inf s) nan) v) s a c
finite-pick true true s v a c f h = absurd f
finite-pick true false s v a c f h = absurd f
finite-pick false q s v a c f h = h

high-field : (s : Bool) (k t : ℕ) → T (finite (of_fields binary32 s (suc k) t)) → HasValue (of_fields binary32 s (suc k) t) s ((8388608 + t) * 2 ^ k) (2 ^ 149)
unfolding of_fields
high-field s k t f = finite-pick (eqb (suc k) 255) (eqb t 0) s (odd 24 s (8388608 + t) k 149) ((8388608 + t) * 2 ^ k) (2 ^ 149) f (odd_sign 24 s (8388608 + t) k 149)

-- the float whose bits have these fields
pub record Fields (x : Float) (e t : ℕ) : Type 0 where
  pub sign : Bool
  pub is : x ≡ of_fields binary32 sign e t
  pub digits : t < 8388608

of-fields : (x : Float) → T (fits binary32 x)
    → x ≡ of_fields binary32 (leb (2 ^ 31) (to_bits binary32 x)) (to_bits binary32 x % 2 ^ 31 / 2 ^ 23) (to_bits binary32 x % 2 ^ 23)
unfolding of_bits
of-fields x t = sym (of_bits-to_bits binary32 x t)

pub fields-of : (x : Float) (b : ℕ) → T (fits binary32 x) → b ≡ to_bits binary32 x → Fields x (b % 2 ^ 31 / 2 ^ 23) (b % 2 ^ 23)
fields-of x b t e =
    rw e (record { sign = leb (2 ^ 31) (to_bits binary32 x); is = of-fields x t; digits = mod-lt (to_bits binary32 x) (pow_pos 23) })

by-fields : (x : Float) (e t u d : ℕ) (f : Fields x e t) → d ≤ most_decimals
    → (T (finite (of_fields binary32 f.sign e t)) → HasValue (of_fields binary32 f.sign e t) f.sign u (2 ^ 149)) → Around x d (u * 10 ^ d / 2 ^ 149)
by-fields x e t u d f D v = around-units x f.sign u d D (subst (λ (z : Float). T (finite z) → HasValue z f.sign u (2 ^ 149)) (sym f.is) v)

tiny : (m d k : ℕ) → m < 2 ^ 24 → d ≤ most_decimals → k ≤ 109 → m * 2 ^ k * 10 ^ d / 2 ^ 149 ≡ 0
tiny m d k h D K =
    div-eq_of_lt
    (lt_of_le_of_lt (mul-le-mul_left (m * 2 ^ k) (ten-mono D))
    (lt_of_le_of_lt (mul-le-mul_right 1000 (mul-le-mul_left m (pow_mono K)))
    (lt_of_lt_of_le (mul-lt-mul_of_pos_right (mul-lt-mul_of_pos_right h (pow_pos 109)) (lit≤ tt)) (lit≤ tt))))

pub around-low : (x : Float) (e t d : ℕ) → d ≤ most_decimals → Fields x e t → e < 110 → Around x d 0
around-low x zero t d D f h = subst (Around x d) (tiny t d 0 (omega (arith, f.digits)) D (omega arith)) (by-fields x 0 t (t * 2 ^ 0) d f D (low_field f.sign 0 t refl))
around-low x (suc k) t d D f h =
    subst (Around x d) (tiny (8388608 + t) d k (omega (arith, f.digits)) D (omega arith)) (by-fields x (suc k) t ((8388608 + t) * 2 ^ k) d f D (high-field f.sign k t))

middle : (x : Float) (e t d : ℕ) → d ≤ most_decimals → Fields x e t → 110 ≤ e → e ≤ 150 → Around x d ((8388608 + t) * 10 ^ d / 2 ^ (150 - e))
middle x zero t d D f h l = absurd (let z : 110 ≤ 0 = h in omega arith)
middle x (suc k) t d D f h l =
    let m = 8388608 + t in
    let c = 10 ^ d in
    let a : 149 - k + k ≡ 149 = omega arith in
    let b : 149 - k ≡ 150 - suc k = omega arith in
    let q = mul-div-mul_right (m * c) (2 ^ (149 - k)) (pow_pos k) in
    let g : m * 2 ^ k * c / 2 ^ 149 ≡ m * c / 2 ^ (150 - suc k) = cc (mul_right_comm m c (2 ^ k), pow-add 2 (149 - k) k) in
    subst (Around x d) g (by-fields x (suc k) t (m * 2 ^ k) d f D (high-field f.sign k t))

pub around-middle : (x : Float) (e t d p : ℕ) → d ≤ most_decimals → (p ≡ 10 ^ d) × (0 < p) → Fields x e t → 110 ≤ e → e ≤ 150 → Around x d ((8388608 + t) * p / 2 ^ (150 - e))
around-middle x e t d p D q f h l = rw q.0 (middle x e t d D f h l)

-- the largest numbers stand for those past them
pub around-last : (x : Float) (d f : ℕ) → Around x d f → 16777214 ≤ f → Around x d 16777214
unfolding Around
around-last x d f a h n l r = elim (a n l r) [ inl e ↦ last (omega arith) | inr e ↦ last (omega arith) ]
  where
    last : 16777214 ≤ n → (n ≡ 16777214) ⊎ (n ≡ 16777215)
    last g = elim (eq-or-lt_of_le g) [ inl e ↦ inl (sym e) | inr k ↦ inr (omega arith) ]

pub around-high : (x : Float) (e t d : ℕ) → d ≤ most_decimals → Fields x e t → 150 < e → Around x d 16777214
around-high x zero t d D f h = absurd (let z : 150 < 0 = h in omega arith)
around-high x (suc k) t d D f h =
    let m = 8388608 + t in
    let a : 2 ^ 23 * 2 ^ 150 ≤ m * 2 ^ k = mul-le-mul (let z : 2 ^ 23 ≤ m = omega arith in z) (pow_mono (le_of_suc-le-suc h)) in
    let b : 2 ^ 24 * 2 ^ 149 ≤ m * 2 ^ k * 10 ^ d = le_trans (lit≤ {m = 2 ^ 24 * 2 ^ 149} {n = 2 ^ 23 * 2 ^ 150 * 1} tt) (mul-le-mul a (ten-pos d)) in
    around-last x d (m * 2 ^ k * 10 ^ d / 2 ^ 149) (by-fields x (suc k) t (m * 2 ^ k) d f D (high-field f.sign k t)) (le_trans (lit≤ {m = 16777214} {n = 2 ^ 24} tt) ((le-div_iff_mul-le (pow_pos 149)).1 b))

-- ---- the sign bit
field-sign : (s : Bool) (e t : ℕ) → T (finite (of_fields binary32 s e t)) → sign_of (of_fields binary32 s e t) ≡ s
field-sign s zero t f = sign-of-value (of_fields binary32 s 0 t) s (t * 2 ^ 0) (2 ^ 149) (low_field s 0 t refl f)
field-sign s (suc k) t f = sign-of-value (of_fields binary32 s (suc k) t) s ((8388608 + t) * 2 ^ k) (2 ^ 149) (high-field s k t f)

finite-sign : (x : Float) → T (fits binary32 x) → T (finite x) → leb (2 ^ 31) (to_bits binary32 x) ≡ sign_of x
finite-sign x t f = sym (ap sign_of (of-fields x t) ∙ field-sign _ _ _ (subst (λ (z : Float). T (finite z)) (of-fields x t) f))

pub sign_bit : (x : Float) → T (fits binary32 x) → leb (2 ^ 31) (to_bits binary32 x) ≡ sign_of x
unfolding to_bits sign_of
sign_bit nan t = refl
sign_bit (inf true) t = refl
sign_bit (inf false) t = refl
sign_bit (fin s m e) t = finite-sign (fin s m e) t tt

-- ---- the test

-- one float is written in one way
bits : Bool → ℕ → ℕ
bits s n = cond s (top binary32) 0 + (size n - 24) * hid binary32 + n / 2 ^ (size n - 24)

bits_are : (s : Bool) (m : ℕ) (e : ℤ) → to_bits binary32 (fin s m e) ≡ bits s (m * up e * 2 ^ 149 / down e)
unfolding to_bits bits
bits_are s m e = refl

one_way : (s : Bool) (m n : ℕ) (e g : ℤ) → T (fits binary32 (fin s m e)) → T (fits binary32 (fin s n g)) → m * up e * down g ≡ n * up g * down e → fin s m e ≡ fin s n g
one_way s m n e g x y h =
    let l = 2 ^ 149 in
    let c : m * up e * l * down g ≡ n * up g * l * down e = cc (mul_right_comm (m * up e) l (down g), mul_right_comm (n * up g) (down e) l) in
    let d = div_same (m * up e * l) (down e) (n * up g * l) (down g) (down_pos e) (down_pos g) c in
    cc (of_bits-to_bits binary32 (fin s m e) x, bits_are s m e, bits_are s n g, of_bits-to_bits binary32 (fin s n g) y)

-- two floats of one sign that compare equal are one
same : (x y : Float) → T (fits binary32 x) → T (fits binary32 y) → sign_of x ≡ sign_of y → eq x y ≡ true → x ≡ y
unfolding eq sign_of
same nan y p q s e = absurd (true≢false (sym e))
same (inf t) nan p q s e = absurd (true≢false (sym e))
same (inf t) (inf u) p q s e = ap inf s
same (inf t) (fin u n g) p q s e = absurd (true≢false (sym e))
same (fin t m d) nan p q s e = absurd (true≢false (sym e))
same (fin t m d) (inf u) p q s e = absurd (true≢false (sym e))
same (fin t m d) (fin u n g) p q s e =
    let c : m * up d * down g ≡ n * up g * down d = eqb-true _ _ (both_true _ _ e).0 in
    subst (λ (z : Bool). T (fits binary32 (fin z n g)) → fin t m d ≡ fin z n g) s (λ (y : T (fits binary32 (fin t n g))). one_way t m n d g p y c) q

-- what passes the test reads as x
pub passed : (x : Float) (n d : ℕ) → T (fits binary32 x) → n < most_number → d ≤ most_decimals → eq (float_of (sign_of x) n d) x ≡ true → Reads x n d
unfolding float_of
passed x n d t h D e = same (round binary32 (sign_of x) n (10 ^ d)) x (round-fits binary32 (sign_of x) n (10 ^ d)) t (sign-of-round (sign_of x) n (10 ^ d) (fraction h D)) e

equals_itself : (x : Float) (s : Bool) (a c : ℕ) → HasValue x s a c → eq x x ≡ true
unfolding eq
equals_itself nan s a c h = absurd h
equals_itself (inf t) s a c h = absurd h
equals_itself (fin false m e) s a c h = cc (eq-eqb (m * up e * down e) (m * up e * down e) refl)
equals_itself (fin true m e) s a c h = cc (eq-eqb (m * up e * down e) (m * up e * down e) refl)

-- what fails it does not
pub failed : (x : Float) (n d : ℕ) → n < most_number → d ≤ most_decimals → eq (float_of (sign_of x) n d) x ≡ false → Reads x n d → ⊥
unfolding float_of
failed x n d h D e r =
    let y = round binary32 (sign_of x) n (10 ^ d) in
    true≢false (sym (equals_itself y (sign_of x) (grid binary32 n (10 ^ d)) (2 ^ 149) (value (sign_of x) n (10 ^ d) (fraction h D))) ∙ ap (eq y) r ∙ e)
