-- Lists put behind each other; elements of a list, and its first ones.
use mathlib.Core.Path.{◌≡◌, refl, ap}
use mathlib.Core.List.{List, [], ◌∷◌, ◌++◌, map}
use mathlib.Core.Logic.{by_cases}
use Prim.Native.Nat.{ℕ, zero, suc, ◌<◌, min}
use native.Mathlib.Omega.{arith}
use native.Mathlib.Decide.{dec_le}
use native.Mathlib.Nat.{not-suc-le-zero, le_of_suc-le-suc}
use lib.ListN.{length, take, get_or}
use lib.Seq.{take_all}

pub map-append : {A B : Type 0} (f : A → B) (u v : List A) → map f (u ++ v) ≡ map f u ++ map f v
map-append f [] v = refl
map-append f (a ∷ u) v = ap (λ l. f a ∷ l) (map-append f u v)

-- inside a list no default is given
pub get_d_any : {A : Type 0} (l : List A) (i : ℕ) (d e : A) → i < length l → get_or l i d ≡ get_or l i e
get_d_any [] i d e h = absurd (not-suc-le-zero h)
get_d_any (a ∷ l) zero d e h = refl
get_d_any (a ∷ l) (suc i) d e h = get_d_any l i d e (le_of_suc-le-suc h)

-- a count past the list is taken as the list's length
pub take_min : {A : Type 0} (l : List A) (n m : ℕ) → length l ≡ m → take (min n m) l ≡ take n l
take_min l n m h =
    by_cases (dec_le n m) (λ k. let e : min n m ≡ n = omega arith in cc) (λ k. cc (take_all (min n m) l (omega arith), take_all n l (omega arith)))
