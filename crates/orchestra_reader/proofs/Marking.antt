-- The loop that marks where instruments start.
use Prim.Native.Nat.{ℕ, suc, ◌+◌, ◌≤◌, ◌<◌}
use native.Mathlib.Omega.{arith}
use mathlib.Core.Path.{◌≡◌, refl, sym, ap, ap₂, ◌∙◌}
use mathlib.Core.Bool.{Bool, true, false, cond}
use mathlib.Core.List.{List, [], ◌∷◌, ◌++◌, append_assoc, append-nil}
use lib.ListN.{length, take, drop, set, get_or, length-append, length-set, drop_of_length-le, replicate}
use lib.Seq.{take_all, take-append-le, drop-cons, set_at}
use lib.Dec.{eqb, ltb}
use borrow.Author.Tests.{eq-eqb, ne_eqb, lt-ltb, le-ltb, ltb-true, ltb-false}
use Rattle.orchestra_expressions.proofs.ReaderSteps.{by_arm}
use Rattle.orchestra_reader.specs.declared.Starts.{Starts}
use Rattle.orchestra_reader.specs.inside.Compiled.{padded}
use Rattle.orchestra_reader.specs.inside.Reading.{starts_from}
use Rattle.orchestra_reader.specs.inside.Arrays.{starting, starts_in, headed_at, marked_at, Fits}

-- ---- the ways through one turn

module _ (n : ℕ) (cells : List ℕ) (o at : ℕ) where
  pub marked-room : o ≡ 1 → n < 8 → starting (n + 1) (set cells n at) ≡ marked_at (starting n cells) o at
  marked-room e lt = rw (eq-eqb o 1 e, lt-ltb n 8 lt)

  pub marked-full : o ≡ 1 → 8 ≤ n → starting n cells ≡ marked_at (starting n cells) o at
  marked-full e le = rw (eq-eqb o 1 e, le-ltb n 8 le)

  pub marked-not : (o ≡ 1 → ⊥) → starting n cells ≡ marked_at (starting n cells) o at
  marked-not e = rw (ne_eqb o 1 e)

-- ---- the whole loop

unfoldable pub marks : Starts → ℕ → List ℕ → Starts
marks h n [] = h
marks h n (o ∷ os) = marks (marked_at h o n) (suc n) os

fits-marked : (h : Starts) (o at : ℕ) → Fits h → Fits (marked_at h o at)
fits-marked h o at f =
    by_arm Fits (eqb o 1) _ _ (λ x.
    by_arm Fits (ltb h.count 8) _ _ (λ e. record { most = omega (arith, ltb-true h.count 8 e); cells = length-set h.places h.count at ∙ f.cells }) (λ e. f))
    (λ x. f)

-- the turns so far, and those to come
pub record Inv (ops : List ℕ) (h : Starts) (pc : ℕ) : Type 0 where
  pub fits : Fits h
  pub rest : marks h pc (drop pc ops) ≡ marks (starts_in []) 0 ops

pub begins : (ops : List ℕ) → Inv ops (starts_in []) 0
begins ops = record { fits = record { most = omega arith; cells = refl }; rest = refl }

pub again : (ops : List ℕ) (n : ℕ) (cells : List ℕ) {m : ℕ} {new : List ℕ} (pc : ℕ) → Inv ops (starting n cells) pc → pc < length ops
    → starting m new ≡ marked_at (starting n cells) (get_or ops pc 0) pc → Inv ops (starting m new) (pc + 1)
unfolding marks
again ops n cells pc v lt e =
    let h = starting n cells in
    let s : pc + 1 ≡ suc pc = omega arith in
    let d = ap (marks h pc) (sym (drop-cons ops pc 0 lt)) in
    rw (e, s) (record { fits = fits-marked h (get_or ops pc 0) pc v.fits; rest = d ∙ v.rest })

-- places in an array: one more
place-next : (hs : List ℕ) (n : ℕ) → length hs < 8 → set (padded 8 0 hs) (length hs) n ≡ padded 8 0 (hs ++ n ∷ [])
place-next hs n lt =
    let r : List ℕ = replicate 8 0 in
    let l : length (hs ++ n ∷ []) ≡ suc (length hs) = length-append hs (n ∷ []) ∙ omega arith in
    rw (
      l,
      drop-cons r (length hs) 0 lt,
      set_at hs (get_or r (length hs) 0) (drop (suc (length hs)) r) n (length hs) refl,
      append_assoc hs (n ∷ []) (drop (suc (length hs)) r),
    )

headed-in : (hs : List ℕ) (n : ℕ) → length hs < 8 → headed_at (starts_in hs) n ≡ starts_in (hs ++ n ∷ [])
headed-in hs n lt =
    rw (lt-ltb (length hs) 8 lt)
    (ap₂ starting (sym (length-append hs (n ∷ []))) (place-next hs n lt))

full-in : (hs : List ℕ) (n : ℕ) → 8 ≤ length hs → headed_at (starts_in hs) n ≡ starts_in hs
full-in hs n le = rw (le-ltb (length hs) 8 le)

module _ (hs os : List ℕ) (n : ℕ) (le : length hs ≤ 8)
    (next : (gs : List ℕ) → length gs ≤ 8 → marks (starts_in gs) (suc n) os ≡ starts_in (take 8 (gs ++ starts_from (suc n) os))) where
  by-room : (b : Bool) → ltb (length hs) 8 ≡ b → marks (headed_at (starts_in hs) n) (suc n) os ≡ starts_in (take 8 (hs ++ n ∷ starts_from (suc n) os))
  by-room true e =
      let lt = ltb-true (length hs) 8 e in
      ap (λ s. marks s (suc n) os) (headed-in hs n lt)
      ∙ next (hs ++ n ∷ []) (omega (arith, length-append hs (n ∷ [])))
      ∙ ap (λ l. starts_in (take 8 l)) (append_assoc hs (n ∷ []) (starts_from (suc n) os))
  by-room false e =
      let ge = ltb-false (length hs) 8 e in
      ap (λ s. marks s (suc n) os) (full-in hs n ge)
      ∙ next hs le
      ∙ ap starts_in (take-append-le 8 hs (starts_from (suc n) os) ge ∙ sym (take-append-le 8 hs (n ∷ starts_from (suc n) os) ge))

  by-op : (b : Bool) → marks (cond b (headed_at (starts_in hs) n) (starts_in hs)) (suc n) os
      ≡ starts_in (take 8 (hs ++ cond b (n ∷ starts_from (suc n) os) (starts_from (suc n) os)))
  by-op true = by-room (ltb (length hs) 8) refl
  by-op false = next hs le

marks-are : (hs os : List ℕ) (n : ℕ) → length hs ≤ 8 → marks (starts_in hs) n os ≡ starts_in (take 8 (hs ++ starts_from n os))
unfolding marks starts_from
marks-are hs [] n le = rw append-nil (ap starts_in (sym (take_all 8 hs le)))
marks-are hs (o ∷ os) n le = by-op hs os n le (λ gs l. marks-are gs os (suc n) l) (eqb o 1)

pub ends : (ops : List ℕ) (n : ℕ) (cells : List ℕ) (pc : ℕ) → Inv ops (starting n cells) pc → length ops ≤ pc → starting n cells ≡ starts_in (take 8 (starts_from 0 ops))
unfolding marks
ends ops n cells pc v le = sym (ap (marks (starting n cells) pc) (drop_of_length-le ops {i = pc} le)) ∙ v.rest ∙ marks-are [] ops 0 (omega arith)
