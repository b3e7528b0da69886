-- The rule at every key: one test that is computed over the whole table, and one law that carries it to each key.
use mathlib.Core.Path.{◌≡◌}
use mathlib.Core.Bool.{Bool, true, ◌&&◌}
use mathlib.Core.List.{List, [], ◌∷◌}
use Prim.Native.Nat.{ℕ, zero, suc, ◌-◌, ◌*◌, ◌^◌, ◌<◌, ◌≤◌}
use native.Mathlib.Nat.{le_of_suc-le-suc, not-suc-le-zero, lt_of_not-le, not-le_of_lt, le_trans, le_antisymm, mul-le-mul_right, pow-le-pow_left}
use lib.Dec.{T, leb, ltb, leb→le, ltb→lt}
use lib.ListN.{length, get_or}
use lib.Ieee.Fits.{and_l, and_r}
use Rattle.midi_keys.specs.Keys.{Rule, table, EveryKeyRight}

-- a test passes at each entry of a list and its place
abbrev every : (ℕ → ℕ → Bool) → List ℕ → Bool
every f [] = true
every f (x ∷ xs) = f 0 x && every (λ k. f (suc k)) xs

at : (f : ℕ → ℕ → Bool) (xs : List ℕ) → T (every f xs) → (n : ℕ) → n < length xs → T (f n (get_or xs n 0))
at f [] t n h = absurd (not-suc-le-zero h)
at f (x ∷ xs) t zero h = and_l (f 0 x) _ t
at f (x ∷ xs) t (suc n) h = at (λ k. f (suc k)) xs (and_r (f 0 x) _ t) n (le_of_suc-le-suc h)

-- the rule and the size of an entry, as tests
low : ℕ → ℕ → Bool
low n t = leb (t ^ 12 * 2 ^ (69 - n)) (450560 ^ 12 * 2 ^ (n - 69))

high : ℕ → ℕ → Bool
high n t = ltb (450560 ^ 12 * 2 ^ (n - 69)) (suc t ^ 12 * 2 ^ (69 - n))

small : ℕ → Bool
small t = ltb t (2 ^ 24)

right : ℕ → ℕ → Bool
right n t = low n t && (high n t && small t)

all_right : T (every right table)
unfolding table right low high small
all_right = tt

passed : (n t : ℕ) → T (right n t) → Rule n t × (t < 2 ^ 24)
unfolding right low high small
passed n t h =
    let rest = and_r (low n t) (high n t && small t) h in
    ((leb→le _ _ (and_l (low n t) _ h), ltb→lt _ _ (and_l (high n t) (small t) rest)), ltb→lt _ _ (and_r (high n t) (small t) rest))

entry : (n : ℕ) → n < 128 → Rule n (get_or table n 0) × (get_or table n 0 < 2 ^ 24)
unfolding table
entry n h = passed n (get_or table n 0) (at right table all_right n h)

pub every-key-right : EveryKeyRight
unfolding table
every-key-right n h = (entry n h).0

pub entry-small : (n : ℕ) → n < 128 → get_or table n 0 < 2 ^ 24
unfolding table
entry-small n h = (entry n h).1

-- the rule leaves one number for a key
at_most : (n t u : ℕ) → Rule n t → Rule n u → u ≤ t
at_most n t u r q =
    le_of_suc-le-suc (lt_of_not-le (λ (g : suc t ≤ u). not-le_of_lt r.1 (le_trans (mul-le-mul_right (2 ^ (69 - n)) (pow-le-pow_left g 12)) q.0)))

pub one_number : (n t u : ℕ) → Rule n t → Rule n u → t ≡ u
one_number n t u r q = le_antisymm (at_most n u t q r) (at_most n t u r q)
