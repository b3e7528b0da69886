-- What the reader finds is what the bytes say, for all bytes.
use mathlib.Core.Path.{◌≡◌, refl, sym, ap, ◌∙◌, subst}
use mathlib.Core.Bool.{Bool, true, false, cond}
use mathlib.Core.List.{List, [], ◌∷◌, ◌++◌}
use Prim.Native.Nat.{ℕ, zero, suc, ◌≤◌}
use native.Mathlib.Omega.{arith}
use lib.Dec.{leb}
use lib.ListN.{length, take, drop, length-append, length-take, take-append-drop}
use lib.Seq.{take-append_seam, drop-append_seam}
use borrow.Author.Tests.{le-leb, lt-leb, leb-true, leb-false}
use Rattle.base_laws.proofs.Choice.{cond-true, cond-false}
use Rattle.base_answer.specs.declared.Answer.TheVariants.{CutShort, TooManyValues}
use Rattle.score_bursts.specs.Bursts.{Burst, units, fault, most_units, sixteen_bits, before, Parses, nothing, unit, cut_length, cut_unit, too_many}
use Rattle.score_bursts.specs.inside.Reading.{behind_last, first_of, burst_from, burst_of}
use Rattle.score_bursts.specs.Claims.{EveryBurst, OneParse}

-- a unit that stands there is cut off
pub whole-unit : (n high low : ℕ) (u rest : List ℕ) → sixteen_bits high low ≡ length u → burst_from (suc n) (high ∷ low ∷ (u ++ rest)) ≡ before u (burst_from n rest)
unfolding burst_from first_of
whole-unit n high low u rest e =
    let k : sixteen_bits high low ≤ length (u ++ rest) = omega (arith, length-append u rest) in
    cond-true _ _ (le-leb (sixteen_bits high low) (length (u ++ rest)) k)
    ∙ ap (λ (m : ℕ). before (take m (u ++ rest)) (burst_from n (drop m (u ++ rest)))) e
    ∙ (λ i. before (take-append_seam u rest i) (burst_from n (drop-append_seam u rest i)))

pub nothing-there : (n : ℕ) → burst_from n [] ≡ units []
unfolding burst_from first_of behind_last
nothing-there zero = refl
nothing-there (suc n) = refl

said : {n : ℕ} {bs : List ℕ} {b : Burst} → Parses n bs b → burst_from n bs ≡ b
unfolding burst_from first_of behind_last
said (nothing {n}) = nothing-there n
said (unit {n} {high} {low} u {rest} b e s) = whole-unit n high low u rest e ∙ ap (before u) (said s)
said cut_length = refl
said (cut_unit {n} {high} {low} {part} l) = cond-false _ _ (lt-leb (sixteen_bits high low) (length part) l)
said too_many = refl

pub one-parse : OneParse
one-parse bs b s = said s

none_left : (bs : List ℕ) → Parses 0 bs (behind_last bs)
unfolding behind_last
none_left [] = nothing
none_left (b ∷ bs) = too_many

one_more : (n : ℕ) (rest : List ℕ → Burst) → ((bs : List ℕ) → Parses n bs (rest bs)) → (bs : List ℕ) → Parses (suc n) bs (first_of rest bs)
unfolding first_of
one_more n rest r [] = nothing
one_more n rest r (high ∷ []) = cut_length
one_more n rest r (high ∷ low ∷ bs) = go (leb k (length bs)) refl
  where
    k : ℕ
    k = sixteen_bits high low

    go : (b : Bool) → leb k (length bs) ≡ b → Parses (suc n) (high ∷ low ∷ bs) (cond b (before (take k bs) (rest (drop k bs))) (fault CutShort))
    go true e =
        let l : k ≤ length bs = leb-true k (length bs) e in
        let long : k ≡ length (take k bs) = sym (length-take k bs ∙ omega (arith, l)) in
        subst (λ (x : List ℕ). Parses (suc n) (high ∷ low ∷ x) (before (take k bs) (rest (drop k bs)))) (take-append-drop k bs) (unit (take k bs) (rest (drop k bs)) long (r (drop k bs)))
    go false e = cut_unit (leb-false k (length bs) e)

says : (n : ℕ) (bs : List ℕ) → Parses n bs (burst_from n bs)
unfolding burst_from
says zero bs = none_left bs
says (suc n) bs = one_more n (burst_from n) (says n) bs

pub every-burst : EveryBurst
every-burst bs = says most_units bs

-- a burst has no other faults than 1 and 5
pub data Kind : Burst → Type 0 where
  is-units : (us : List (List ℕ)) → Kind (units us)
  is_cut : Kind (fault CutShort)
  is-too-many : Kind (fault TooManyValues)

kind-before : (u : List ℕ) {b : Burst} → Kind b → Kind (before u b)
unfolding before
kind-before u (is-units us) = is-units (u ∷ us)
kind-before u is_cut = is_cut
kind-before u is-too-many = is-too-many

kind-said : {n : ℕ} {bs : List ℕ} {b : Burst} → Parses n bs b → Kind b
kind-said nothing = is-units []
kind-said (unit u b e s) = kind-before u (kind-said s)
kind-said cut_length = is_cut
kind-said (cut_unit l) = is_cut
kind-said too_many = is-too-many

pub every-kind : (bs : List ℕ) → Kind (burst_of bs)
every-kind bs = kind-said (every-burst bs)
