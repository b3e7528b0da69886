-- A fraction rounded to the nearest whole number: within a half of it, and, where there is no tie, nearer than every other. Nothing here is
-- about floats. Assumes nothing.
use Prim.Native.Nat.{ℕ, zero, suc, ◌+◌, ◌-◌, ◌*◌, ◌/◌, ◌%◌, ◌^◌, ◌≤◌, ◌<◌, compare, Ordering}
use mathlib.Core.Path.{◌≡◌, sym, ap, ◌∙◌, subst}
use mathlib.Core.Bool.{not}
use native.Mathlib.Nat.{div-add-mod', mod-lt, mul-le-mul_right, mul-one, mul-zero, mul-suc, pow-suc}
use native.Mathlib.Omega.{arith}
use lib.Arith.{lt_of_le-ne}
use lib.Dec.{T, is_le, compare_is_eq, eqb, leb→le, nleb→lt, eqb→eq, eqb_refl}
use lib.Ieee.{nearest}
use lib.Ieee.Nearest.{closest}

abbrev Cmp : Ordering → ℕ → ℕ → Type 0
Cmp Ordering.lt a b = a < b
Cmp Ordering.eq a b = a ≡ b
Cmp Ordering.gt a b = b < a

cmp : (a b : ℕ) → Cmp (compare a b) a b
cmp a b = go (compare a b) (leb→le a b) (nleb→lt a b) (eqb→eq a b) (λ (e : a ≡ b). subst (λ (x : ℕ). T (eqb a x)) e (eqb_refl a))
  where
    go : (o : Ordering) → (T (is_le o) → a ≤ b) → (T (not (is_le o)) → b < a) → (T (compare_is_eq o) → a ≡ b) → (a ≡ b → T (compare_is_eq o)) → Cmp o a b
    go Ordering.lt h k e n = lt_of_le-ne (h tt) n
    go Ordering.eq h k e n = e tt
    go Ordering.gt h k e n = k tt

-- how far apart two numbers are
abbrev pub gap : ℕ → ℕ → ℕ
gap x y = (x - y) + (y - x)

-- w is at most half of b from a, and just half only where the rest is
pub record Half (a b r w : ℕ) : Type 0 where
  pub within : gap a w * 2 ≤ b
  pub tie : gap a w * 2 ≡ b → r * 2 ≡ b

half_at : (a b q r : ℕ) (o : Ordering) → q * b + r ≡ a → r < b → Cmp o (r * 2) b → Half a b r (nearest q o * b)
half_at a b q r Ordering.lt e l h = record { within = omega arith; tie = λ t. omega arith }
half_at a b q r Ordering.eq e l h = even (q % 2) (mod-lt q (omega arith))
  where
    even : (t : ℕ) → t < 2 → Half a b r ((q + t) * b)
    even zero k = record { within = omega arith; tie = λ t. h }
    even (suc zero) k = record { within = omega arith; tie = λ t. h }
    even (suc (suc t)) k = absurd (let z : suc (suc t) < 2 = k in omega arith)
half_at a b q r Ordering.gt e l h = record { within = omega arith; tie = λ t. omega arith }

pub half : (a b : ℕ) → 0 < b → Half a b (a % b) (closest a b * b)
half a b B = half_at a b (a / b) (a % b) (compare (a % b * 2) b) (div-add-mod' a b) (mod-lt a B) (cmp (a % b * 2) b)

-- nearer than any other whole number, where there is no tie
pub nearest-whole : (a b y : ℕ) → 0 < b → (a % b * 2 ≡ b → ⊥) → (closest a b ≡ y → ⊥) → gap a (closest a b * b) < gap a (y * b)
nearest-whole a b y B t n = go (closest a b) (half a b B) n (compare (closest a b) y) (cmp (closest a b) y)
  where
    step : (x y : ℕ) → x < y → x * b + b ≤ y * b
    step x y h = omega (arith, mul-le-mul_right b h)

    go : (z : ℕ) → Half a b (a % b) (z * b) → (z ≡ y → ⊥) → (o : Ordering) → Cmp o z y → gap a (z * b) < gap a (y * b)
    go z h n Ordering.lt l = let s : gap a (z * b) * 2 < b = lt_of_le-ne h.within (λ e. t (h.tie e)) in omega (arith, step z y l)
    go z h n Ordering.eq l = absurd (n l)
    go z h n Ordering.gt l = let s : gap a (z * b) * 2 < b = lt_of_le-ne h.within (λ e. t (h.tie e)) in omega (arith, step y z l)

-- no tie: an odd number past n divides no n * 2 ^ j but 0
pub no-half : (j n q y : ℕ) → 0 < n → n ≤ q * 2 → (q * 2 + 1) * y ≡ n * 2 ^ j → ⊥
no-half zero n q zero N h e = let f : n ≡ 0 = sym (sym (mul-zero (q * 2 + 1)) ∙ e ∙ mul-one n) in omega arith
no-half zero n q (suc y) N h e = let f : (q * 2 + 1) * y + (q * 2 + 1) ≡ n = sym (mul-suc (q * 2 + 1) y) ∙ e ∙ mul-one n in omega arith
no-half (suc j) n q y N h e =
    let a = n * 2 ^ j in
    let b = q * y in
    let f : (q * 2 + 1) * y ≡ a * 2 = omega (arith, ap (λ (x : ℕ). n * x) (pow-suc 2 j)) in
    let z : y ≡ (a - b) * 2 = omega (arith, f) in
    no-half j n q (a - b) N h (omega (arith, ap (λ (x : ℕ). q * x) z))
