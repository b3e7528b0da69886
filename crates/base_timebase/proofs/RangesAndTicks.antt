-- What the ranges and the ticks tell the layers above. Assumes nothing.
use Rattle.std.proofs.Common.{◌≡◌, ℕ, suc, ◌+◌, ◌*◌, ◌/◌, ◌%◌, ◌^◌, ◌<◌, ◌≤◌, Bool, true, false, not, ◌&&◌, T, ltb, leb, ◌⊎◌, sym, refl, ◌∙◌, inl, inr, ⊎_elim, true≢false, zero-le, le_trans, le_of_eq, mul-le-mul_right, mod-lt, mul_assoc, suc-mul, le_antisymm, arith, ltb-true, eqb-true, leb-false, leb-true}
use native.Mathlib.Nat.{mod-add-div'}
use borrow.Table.Steps.{cases}
use lib.Ieee.{Float, nan, inf, fin, binary32, up, down, is_nan, of_bits, to_bits, lt, eq, le}
use lib.Ieee.Bits.{to_bits-of_bits}
use lib.Ieee.Fits.{down_pos}
use lib.Ieee.Scale.{finite}
use Rattle.base_laws.proofs.Choice.{both_true}
use Rattle.base_timebase.specs.Time.{finite_bits, time_bits, duration_bits, tempo_bits, nearest, ticks_of, ticks_in, cycle_of, cycle_in, latest, slowest, fastest, endless, Nearest, TicksNearest, OneNearest}
use Rattle.base_timebase.specs.inside.Range.{checked, EveryNumber}
use Rattle.std.specs.Prelude.{Some, None}
use Rattle.base_timebase.proofs.Order.{le_trans as le_on}
use Rattle.base_timebase.proofs.Ranges.{zero_f, from_zero, between-finite}
use Rattle.base_timebase.proofs.Growth.{ticks_of-grows, cycle_of-grows}

-- ---- what an answer tells of its pattern

pub checked-in : (p : Bool) (b : ℕ) (x : Float) → checked p b ≡ Some x → (p ≡ true) × (of_bits binary32 b ≡ x)
unfolding checked
checked-in true b x e = (refl, cc)
checked-in false b x e = absurd (let z : ◌≡◌ {A = ℕ} 0 1 = cc in omega arith)

pub checked-out : (p : Bool) (b : ℕ) → checked p b ≡ None → p ≡ false
unfolding checked
checked-out true b e = absurd (let z : ◌≡◌ {A = ℕ} 0 1 = cc in omega arith)
checked-out false b e = refl

pub every-number : EveryNumber
unfolding checked
every-number true b = refl
every-number false b = refl

-- ---- patterns and floats, there and back

-- finite patterns are those of finite floats
pub finite-is : (b : ℕ) → finite_bits b ≡ finite (of_bits binary32 b)
unfolding finite_bits
finite-is b = refl

pub finite-no-nan : (x : Float) → finite x ≡ true → T (not (is_nan x))
unfolding is_nan
finite-no-nan nan e = absurd (true≢false (sym e))
finite-no-nan (inf s) e = tt
finite-no-nan (fin s m d) e = tt

-- a finite pattern comes back from its float
pub pattern-back : (b : ℕ) → b < 2 ^ 32 → finite_bits b ≡ true → to_bits binary32 (of_bits binary32 b) ≡ b
pattern-back b h e = to_bits-of_bits binary32 b h (finite-no-nan (of_bits binary32 b) (sym (finite-is b) ∙ e))

-- ---- what each range tells of the float

pub time-from-to : (b : ℕ) → time_bits b ≡ true → (le zero_f (of_bits binary32 b) ≡ true) × (le (of_bits binary32 b) latest ≡ true)
unfolding time_bits
time-from-to b e =
    let p = both_true (ltb b (2 ^ 31)) (le (of_bits binary32 b) latest) e in
    (from_zero b latest (ltb-true b (2 ^ 31) p.0) p.1, p.1)

pub tempo-from-to : (b : ℕ) → tempo_bits b ≡ true → (le slowest (of_bits binary32 b) ≡ true) × (le (of_bits binary32 b) fastest ≡ true)
unfolding tempo_bits
tempo-from-to b e = both_true (le slowest (of_bits binary32 b)) (le (of_bits binary32 b) fastest) e

-- a duration is a time or the pattern of -1
pub duration-is : (b : ℕ) → duration_bits b ≡ true → (time_bits b ≡ true) ⊎ (b ≡ 0xbf80_0000)
unfolding duration_bits to_bits
duration-is b e = cases (time_bits b) inl (λ f. inr (eqb-true b 0xbf80_0000 (cc)))

-- the float of that pattern
pub endless-is : of_bits binary32 0xbf80_0000 ≡ endless
unfolding of_bits
endless-is = refl

-- ---- accepted patterns are finite

pub time-finite : (b : ℕ) → time_bits b ≡ true → finite_bits b ≡ true
time-finite b e = let p = time-from-to b e in finite-is b ∙ between-finite (of_bits binary32 b) latest p.0 p.1 refl

pub duration-finite : (b : ℕ) → duration_bits b ≡ true → finite_bits b ≡ true
duration-finite b e = ⊎_elim (time-finite b) (λ f. cc (finite-is b, endless-is)) (duration-is b e)

zero-slowest : le zero_f slowest ≡ true
unfolding le lt eq
zero-slowest = refl

pub tempo-finite : (b : ℕ) → tempo_bits b ≡ true → finite_bits b ≡ true
tempo-finite b e =
    let p = tempo-from-to b e in
    finite-is b ∙ between-finite (of_bits binary32 b) fastest (le_on zero_f slowest (of_bits binary32 b) zero-slowest p.0) p.1 refl

-- ---- ticks

-- an exact half goes up: 3 * 2 ^ -15 beats are 562.5 ticks
pub half_up : ticks_in (of_bits binary32 0x38c0_0000) ≡ 563
unfolding ticks_in of_bits le
half_up = refl

nearest-is : (a c : ℕ) → 0 < c → Nearest a c (nearest a c)
unfolding nearest
nearest-is a c h =
    let n = (a * 2 + c) / (c * 2) in
    let q : (a * 2 + c) % (c * 2) + n * (c * 2) ≡ a * 2 + c = mod-add-div' (a * 2 + c) (c * 2) in
    let l : (a * 2 + c) % (c * 2) < c * 2 = mod-lt (a * 2 + c) (omega arith) in
    let s : n * (c * 2) ≡ n * c * 2 = sym (mul_assoc n c 2) in
    record { above = omega arith; below = omega arith }

-- ticks are nearest, and nothing else is
pub ticks-nearest : TicksNearest
unfolding ticks_in ticks_of
ticks-nearest m e h = rw h (nearest-is (m * up e * 6144000) (down e) (down_pos e))

nearest-least : (a c n k : ℕ) → Nearest a c n → Nearest a c k → k ≤ n
nearest-least a c n k p q =
    cases (leb k n) (leb-true k n)
    (λ g.
    let d : suc n * c ≤ k * c = mul-le-mul_right c (leb-false k n g) in
    let s : suc n * c ≡ n * c + c = suc-mul n c in
    absurd (omega arith))

pub one-nearest : OneNearest
one-nearest a c n k p q = le_antisymm (nearest-least a c k n q p) (nearest-least a c n k p q)

-- ticks do not fall as time grows
pub ticks-grow : (x y : Float) → le x y ≡ true → le y latest ≡ true → ticks_in x ≤ ticks_in y
unfolding ticks_in
ticks-grow x y h k = rw k (cases (le x latest) (λ e. rw e (ticks_of-grows x y h k)) (λ e. rw e zero-le))

latest-ticks : (le latest latest ≡ true) × (ticks_of latest ≡ 100663296000)
unfolding le lt eq ticks_of
latest-ticks = (refl, refl)

-- no float has more ticks than the latest time
pub ticks-most : (x : Float) → ticks_in x ≤ 100663296000
unfolding ticks_in
ticks-most x = cases (le x latest) (λ e. rw e (le_trans (ticks_of-grows x latest e latest-ticks.0) (le_of_eq latest-ticks.1))) (λ e. rw e zero-le)

tempo-ends : (le slowest slowest ≡ true) × (le slowest fastest ≡ true) × (le fastest fastest ≡ true) × (cycle_of slowest ≡ 1024) × (cycle_of fastest ≡ 983040)
unfolding le lt eq cycle_of
tempo-ends = (refl, refl, refl, refl, refl)

-- ticks per cycle of a valid tempo
pub cycle-from-to : (x : Float) → le slowest x ≡ true → le x fastest ≡ true → (1024 ≤ cycle_in x) × (cycle_in x ≤ 983040)
unfolding cycle_in
cycle-from-to x h k = rw (h, k) (
  le_trans (le_of_eq (sym tempo-ends.3)) (cycle_of-grows slowest x tempo-ends.0 h k),
  le_trans (cycle_of-grows x fastest h k tempo-ends.2) (le_of_eq tempo-ends.4),
)

-- no float has more ticks per cycle than the fastest tempo
pub cycle-most : (x : Float) → cycle_in x ≤ 983040
unfolding cycle_in
cycle-most x =
    cases (le slowest x && le x fastest)
    (λ e. let p = both_true (le slowest x) (le x fastest) e in rw e (le_trans (cycle_of-grows x fastest p.0 p.1 tempo-ends.2) (le_of_eq tempo-ends.4)))
    (λ e. rw e zero-le)
