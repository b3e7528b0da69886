-- The order of floats: `le` goes on from float to float, of two numbers one is at most the other, and `lt` is where the other way fails. Assumes nothing.
use Rattle.std.proofs.Common.{◌≡◌, ℕ, ◌+◌, ◌*◌, ◌<◌, ◌≤◌, Bool, true, false, not, ◌&&◌, ◌||◌, T, eqb, ltb, sym, refl, ap, ◌∙◌, true≢false, mul-pos, zero-mul, arith, ltb-false, ltb-true, le-ltb, lt-ltb, eq-eqb, ne_eqb, eqb-true}
use borrow.Author.Tests.{eqb-false, not-true}
use borrow.Table.Steps.{cases}
use lib.Ieee.{Float, nan, inf, fin, up, down, below, level, lt, eq, le, is_nan}
use lib.Ieee.Fits.{down_pos}
use lib.Ieee.Positive.{through}
use Rattle.base_laws.proofs.Choice.{both_true}

-- ±a at most ±b
unfoldable pub AtMost : Bool → ℕ → Bool → ℕ → Type 0
AtMost false a false b = a ≤ b
AtMost false a true b = (a ≡ 0) × (b ≡ 0)
AtMost true a false b = T true
AtMost true a true b = b ≤ a

-- the test that `le` makes of two fractions over one denominator
abbrev test : Bool → ℕ → Bool → ℕ → Bool
test s a t b = below s a t b || level s a t b

at-most-of : (a b : ℕ) (q : Bool) → (ltb a b || q) ≡ true → (q ≡ true → a ≡ b) → a ≤ b
at-most-of a b q e f = cases (ltb a b) (λ l. omega (arith, ltb-true a b l)) (λ l. let z : a ≡ b = f (cc) in omega arith)

-- the tests that `below` and `level` make of two magnitudes of one sign
pub at_most : (s : Bool) (a : ℕ) (t : Bool) (b : ℕ) → test s a t b ≡ true → AtMost s a t b
unfolding AtMost
at_most false a false b e = at-most-of a b (eqb a b && true) e (λ q. eqb-true a b (both_true (eqb a b) true q).0)
at_most false a true b e = let p = both_true (eqb a b) (eqb a 0) e in let v = eqb-true a 0 p.1 in (v, sym (eqb-true a b p.0) ∙ v)
at_most true a false b e = tt
at_most true a true b e = at-most-of b a (eqb a b && true) e (λ q. sym (eqb-true a b (both_true (eqb a b) true q).0))

-- a test that holds where the first number is less, and where they are equal
ordered : (a b : ℕ) (q : Bool) → a ≤ b → (a ≡ b → q ≡ true) → (ltb a b || q) ≡ true
ordered a b q h f = cases (ltb a b) (λ l. cc) (λ l. let z : a ≡ b = omega (arith, ltb-false a b l) in cc (f z))

pub at-most-back : (s : Bool) (a : ℕ) (t : Bool) (b : ℕ) → AtMost s a t b → test s a t b ≡ true
unfolding AtMost
at-most-back false a false b h = ordered a b (eqb a b && true) h (λ z. cc (eq-eqb a b z))
at-most-back false a true b h = let q : a ≡ b = h.0 ∙ sym h.1 in rw (eq-eqb a b q, eq-eqb a 0 h.0)
at-most-back true a false b h =
    ordered 0 (a + b) (eqb a b && eqb a 0) (omega arith) (λ z. let p : a ≡ b = omega arith in let q : a ≡ 0 = omega arith in cc (eq-eqb a b p, eq-eqb a 0 q))
at-most-back true a true b h = ordered b a (eqb a b && true) h (λ z. cc (eq-eqb a b (sym z)))

-- ---- from float to float

pub none : (x d : ℕ) → 0 < d → x * d ≡ 0 → x ≡ 0
none x d h e = cases (ltb 0 x) (λ p. let q : 0 < x * d = mul-pos (ltb-true 0 x p) h in absurd (omega arith)) (λ p. omega (arith, ltb-false 0 x p))

none-at-most : (x d y c : ℕ) → 0 < d → x * d ≤ y * c → y ≡ 0 → x ≡ 0
none-at-most x d y c h l e = none x d h (let z : y * c ≡ 0 = ap (λ (n : ℕ). n * c) e ∙ zero-mul c in omega arith)

product-none : (x d : ℕ) → x ≡ 0 → x * d ≡ 0
product-none x d e = ap (λ (n : ℕ). n * d) e ∙ zero-mul d

chain : (s t r : Bool) (x y z p q w : ℕ) → 0 < p → 0 < q → 0 < w → AtMost s (x * q) t (y * p) → AtMost t (y * w) r (z * q) → AtMost s (x * w) r (z * p)
unfolding AtMost
chain false false false x y z p q w P Q W h k = through x y z p q w Q h k
chain false false true x y z p q w P Q W h k =
    let yz = none y w W k.0 in
    (product-none x w (none-at-most x q y p Q h yz), product-none z p (none z q Q k.1))
chain false true false x y z p q w P Q W h k =
    let e : x * w ≡ 0 = product-none x w (none x q Q h.0) in omega arith
chain false true true x y z p q w P Q W h k =
    let yz = none y p P h.1 in
    (product-none x w (none x q Q h.0), product-none z p (none-at-most z q y w Q k yz))
chain true false false x y z p q w P Q W h k = tt
chain true false true x y z p q w P Q W h k =
    let e : z * p ≡ 0 = product-none z p (none z q Q k.1) in omega arith
chain true true false x y z p q w P Q W h k = tt
chain true true true x y z p q w P Q W h k = through z y x w q p Q k h

pub le_trans : (x y z : Float) → le x y ≡ true → le y z ≡ true → le x z ≡ true
unfolding le lt eq
le_trans nan y z h k = absurd (true≢false (sym h))
le_trans (inf true) nan z h k = absurd (true≢false (sym h))
le_trans (inf true) (inf t) nan h k = absurd (true≢false (sym k))
le_trans (inf true) (inf t) (inf true) h k = refl
le_trans (inf true) (inf t) (inf false) h k = refl
le_trans (inf true) (inf t) (fin r i c) h k = refl
le_trans (inf true) (fin t n d) nan h k = absurd (true≢false (sym k))
le_trans (inf true) (fin t n d) (inf true) h k = refl
le_trans (inf true) (fin t n d) (inf false) h k = refl
le_trans (inf true) (fin t n d) (fin r i c) h k = refl
le_trans (inf false) nan z h k = absurd (true≢false (sym h))
le_trans (inf false) (inf true) z h k = absurd (true≢false (sym h))
le_trans (inf false) (inf false) z h k = k
le_trans (inf false) (fin t n d) z h k = absurd (true≢false (sym h))
le_trans (fin s m e) nan z h k = absurd (true≢false (sym h))
le_trans (fin s m e) (inf true) z h k = absurd (true≢false (sym h))
le_trans (fin s m e) (inf false) nan h k = absurd (true≢false (sym k))
le_trans (fin s m e) (inf false) (inf true) h k = absurd (true≢false (sym k))
le_trans (fin s m e) (inf false) (inf false) h k = refl
le_trans (fin s m e) (inf false) (fin r i c) h k = absurd (true≢false (sym k))
le_trans (fin s m e) (fin t n d) nan h k = absurd (true≢false (sym k))
le_trans (fin s m e) (fin t n d) (inf true) h k = absurd (true≢false (sym k))
le_trans (fin s m e) (fin t n d) (inf false) h k = refl
le_trans (fin s m e) (fin t n d) (fin r i c) h k =
    at-most-back s (m * up e * down c) r (i * up c * down e)
    (chain s t r (m * up e) (n * up d) (i * up c) (down e) (down d) (down c) (down_pos e) (down_pos d) (down_pos c)
    (at_most s (m * up e * down d) t (n * up d * down e) h)
    (at_most t (n * up d * down c) r (i * up c * down d) k))

-- ---- of two numbers: y is below x exactly where x is not at most y

turned : (s : Bool) (a : ℕ) (t : Bool) (b : ℕ) → below t b s a ≡ not (test s a t b)
turned false a false b = cases (ltb b a) (λ l. let k = ltb-true b a l in cc (le-ltb a b (omega arith), ne_eqb a b (λ z. omega arith)))
    (λ n. cc (ordered a b (eqb a b && true) (ltb-false b a n) (λ z. cc (eq-eqb a b z))))
turned false a true b = cases (eqb a b) (λ e. cases (eqb a 0) (λ z. let p = eqb-true a b e in let q = eqb-true a 0 z in cc (le-ltb 0 (b + a) (omega arith)))
    (λ z. cc (lt-ltb 0 (b + a) (omega (arith, eqb-false a 0 z))))) (λ e. cc (lt-ltb 0 (b + a) (omega (arith, eqb-false a b e))))
turned true a false b = rw (at-most-back true a false b (unfold AtMost in tt))
turned true a true b = cases (ltb a b) (λ l. let k = ltb-true a b l in cc (le-ltb b a (omega arith), ne_eqb a b (λ z. omega arith)))
    (λ n. cc (ordered b a (eqb a b && true) (ltb-false a b n) (λ z. cc (eq-eqb a b (sym z)))))

pub lt-is : (x y : Float) → is_nan x ≡ false → is_nan y ≡ false → lt y x ≡ not (le x y)
unfolding lt eq le is_nan
lt-is nan y p q = absurd (true≢false p)
lt-is (inf s) nan p q = absurd (true≢false q)
lt-is (fin s m e) nan p q = absurd (true≢false q)
lt-is (inf true) (inf true) p q = refl
lt-is (inf true) (inf false) p q = refl
lt-is (inf false) (inf true) p q = refl
lt-is (inf false) (inf false) p q = refl
lt-is (inf true) (fin t n d) p q = refl
lt-is (inf false) (fin t n d) p q = refl
lt-is (fin s m e) (inf true) p q = refl
lt-is (fin s m e) (inf false) p q = refl
lt-is (fin s m e) (fin t n d) p q = turned s (m * up e * down d) t (n * up d * down e)

-- ---- what follows for sorting by time

pub le-numbers : (x y : Float) → le x y ≡ true → (is_nan x ≡ false) × (is_nan y ≡ false)
unfolding le lt eq is_nan
le-numbers nan y h = absurd (true≢false (sym h))
le-numbers (inf s) nan h = absurd (true≢false (sym h))
le-numbers (inf s) (inf t) h = (refl, refl)
le-numbers (inf s) (fin t n d) h = (refl, refl)
le-numbers (fin s m e) nan h = absurd (true≢false (sym h))
le-numbers (fin s m e) (inf t) h = (refl, refl)
le-numbers (fin s m e) (fin t n d) h = (refl, refl)

pub lt-le : (x y : Float) → lt x y ≡ true → le x y ≡ true
unfolding le
lt-le x y h = rw h

pub lt-numbers : (x y : Float) → lt x y ≡ true → (is_nan x ≡ false) × (is_nan y ≡ false)
lt-numbers x y h = le-numbers x y (lt-le x y h)

pub lt_not_le : (x y : Float) → lt x y ≡ true → le y x ≡ false
lt_not_le x y h = let n = lt-numbers x y h in not-true (le y x) (sym (lt-is y x n.1 n.0) ∙ h)

-- of two numbers, one is at most the other
pub le_total : (x y : Float) → is_nan x ≡ false → is_nan y ≡ false → le x y ≡ false → le y x ≡ true
le_total x y p q h = lt-le y x (lt-is x y p q ∙ ap not h)

pub le_refl : (x : Float) → is_nan x ≡ false → le x x ≡ true
le_refl x p = cases (le x x) (λ e. e) (le_total x x p p)

pub le_lt_trans : (x y z : Float) → le x y ≡ true → lt y z ≡ true → lt x z ≡ true
le_lt_trans x y z h k =
    lt-is z x (lt-numbers y z k).1 (le-numbers x y h).0 ∙ ap not (cases (le z x) (λ e. absurd (true≢false (sym (le_trans z x y e h) ∙ lt_not_le y z k))) (λ e. e))
