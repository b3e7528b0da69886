-- A name among those of a table, and its place.
use Prim.Native.Nat.{ℕ, suc, ◌+◌, ◌-◌, ◌*◌, ◌≤◌, ◌<◌}
use native.Mathlib.Omega.{arith}
use native.Mathlib.Numerals.{add-one}
use mathlib.Core.Path.{◌≡◌, refl, sym, ap, ◌∙◌}
use mathlib.Core.List.{List, [], ◌∷◌}
use mathlib.Core.Bool.{Bool, true, false, not, ◌&&◌, ◌||◌, cond}
use lib.ListN.{length, take, drop, get_or, drop_of_length-le}
use lib.Seq.{drop-cons, get_or-take, length-take-le}
use lib.Dec.{eqb, leb, ltb, leb-suc-suc}
use borrow.Author.Tests.{eq-eqb, ne_eqb, lt-ltb, le-ltb, lt-leb, le-leb, ltb-true, ltb-false}
use Rattle.orchestra_syntax.specs.Names.{symbols, has}
use Rattle.orchestra_syntax.specs.inside.Placed.{placed_as, place_from, place, speed_of_kind}
use Rattle.orchestra_name_rules.specs.Table.{own_of, seek_in}

-- ---- the loop of `seek`

pub record Inv (table : List ℕ) (n s i : ℕ) : Type 0 where
  pub inside : i ≤ n
  pub is : i + seek_in (drop i (take n table)) s ≡ seek_in (take n table) s

module _ (table : List ℕ) (n s : ℕ) (fits : n ≤ length table) where
  here : (i : ℕ) → i < n → drop i (take n table) ≡ get_or table i 0 ∷ drop (suc i) (take n table)
  here i lt = drop-cons (take n table) i 0 (rw (length-take-le n table fits) lt) ∙ ap (λ w. w ∷ drop (suc i) (take n table)) (get_or-take n table i 0 lt)

  pub starts : Inv table n s 0
  starts = record { inside = omega arith; is = omega arith }

  module _ {i : ℕ} (v : Inv table n s i) where
    pub found : i < n → get_or table i 0 ≡ s → i ≡ seek_in (take n table) s
    unfolding seek_in
    found lt e =
        let z : seek_in (drop i (take n table)) s ≡ 0 = rw (here i lt, eq-eqb (get_or table i 0) s e) in
        omega (arith, v.is)

    pub again : i < n → (get_or table i 0 ≡ s → ⊥) → Inv table n s (i + 1)
    unfolding seek_in
    again lt e =
        let z : seek_in (drop i (take n table)) s ≡ suc (seek_in (drop (suc i) (take n table)) s) = rw (here i lt, ne_eqb (get_or table i 0) s e) in
        record { inside = omega arith; is = rw add-one (omega (arith, v.is)) }

    pub ends : n ≤ i → n ≡ seek_in (take n table) s
    unfolding seek_in
    ends le =
        let d = drop_of_length-le (take n table) {i = i} (rw (length-take-le n table fits) le) in
        let z : seek_in (drop i (take n table)) s ≡ 0 = rw d in
        omega (arith, v.is, v.inside)

-- ---- what the place found says

seek-has : (ws : List ℕ) (s : ℕ) → ltb (seek_in ws s) (length ws) ≡ has s ws
unfolding seek_in has
seek-has [] s = refl
seek-has (w ∷ ws) s = go (eqb w s) (seek-has ws s)
  where
    go : (b : Bool) → ltb (seek_in ws s) (length ws) ≡ has s ws → ltb (cond b 0 (suc (seek_in ws s))) (suc (length ws)) ≡ (b || has s ws)
    go true h = lt-ltb 0 (suc (length ws)) (omega arith)
    go false h = leb-suc-suc (suc (seek_in ws s)) (length ws) ∙ h

not-less : (i n : ℕ) (b : Bool) → ltb i n ≡ b → leb n i ≡ not b
not-less i n true e = lt-leb n i (ltb-true i n e)
not-less i n false e = le-leb n i (ltb-false i n e)

module _ (table : List ℕ) (n s i : ℕ) (fits : n ≤ length table) (e : i ≡ seek_in (take n table) s) where
  pub known_is : ltb i n ≡ has s (take n table)
  known_is =
      let l = length-take-le n table fits in
      ap (λ (x : ℕ). ltb x n) e ∙ ap (ltb (seek_in (take n table) s)) (sym l) ∙ seek-has (take n table) s

  pub free-is : (most : ℕ) → n < most → leb n i ≡ (ltb n most && not (has s (take n table)))
  free-is most lt = rw (lt-ltb n most lt) (not-less i n (has s (take n table)) known_is)

pub full_is : (table : List ℕ) (n s most : ℕ) → most ≤ n → false ≡ (ltb n most && not (has s (take n table)))
full_is table n s most le = rw (le-ltb n most le)

-- ---- tables of names with their kinds

pub symbols-own : (ws ks : List ℕ) → symbols (own_of ws ks) ≡ ws
unfolding own_of
symbols-own [] ks = refl
symbols-own (w ∷ ws) ks = ap (λ l. w ∷ l) (symbols-own ws (drop 1 ks))

pub length-own : (ws ks : List ℕ) → length (own_of ws ks) ≡ length ws
unfolding own_of
length-own [] ks = refl
length-own (w ∷ ws) ks = ap suc (length-own ws (drop 1 ks))

get_d-drop1 : (l : List ℕ) (i : ℕ) → get_or (drop 1 l) i 0 ≡ get_or l (suc i) 0
get_d-drop1 [] i = refl
get_d-drop1 (a ∷ l) i = refl

seek-from : (ws ks : List ℕ) (s p : ℕ) → seek_in ws s < length ws → place_from p s (own_of ws ks) ≡ 16 * speed_of_kind (get_or ks (seek_in ws s) 0) + (p + seek_in ws s)
unfolding seek_in place_from own_of
seek-from [] ks s p lt = absurd (omega arith)
seek-from (w ∷ ws) ks s p lt = go (eqb w s) (λ h. seek-from ws (drop 1 ks) s (suc p) h) lt
  where
    go : (b : Bool) → (seek_in ws s < length ws → place_from (suc p) s (own_of ws (drop 1 ks)) ≡ 16 * speed_of_kind (get_or (drop 1 ks) (seek_in ws s) 0) + (suc p + seek_in ws s))
        → cond b 0 (suc (seek_in ws s)) < suc (length ws)
        → cond b (16 * speed_of_kind (get_or ks 0 0) + p) (place_from (suc p) s (own_of ws (drop 1 ks))) ≡ 16 * speed_of_kind (get_or ks (cond b 0 (suc (seek_in ws s))) 0) + (p + cond b 0 (suc (seek_in ws s)))
    go true h lt = omega arith
    go false h lt = h (omega arith) ∙ rw get_d-drop1 (omega arith)

seek-none : (ws ks : List ℕ) (s p : ℕ) → length ws ≤ seek_in ws s → place_from p s (own_of ws ks) ≡ 0
unfolding seek_in place_from own_of
seek-none [] ks s p le = refl
seek-none (w ∷ ws) ks s p le = go (eqb w s) (λ h. seek-none ws (drop 1 ks) s (suc p) h) le
  where
    go : (b : Bool) → (length ws ≤ seek_in ws s → place_from (suc p) s (own_of ws (drop 1 ks)) ≡ 0)
        → suc (length ws) ≤ cond b 0 (suc (seek_in ws s))
        → cond b (16 * speed_of_kind (get_or ks 0 0) + p) (place_from (suc p) s (own_of ws (drop 1 ks))) ≡ 0
    go true h le = absurd (omega arith)
    go false h le = h (omega arith)

module _ (table ks : List ℕ) (n s i : ℕ) (fits : n ≤ length table) (e : i ≡ seek_in (take n table) s) where
  pub place_found : {r c : ℕ} → i < n → r ≡ speed_of_kind (get_or ks i 0) → c ≡ placed_as r i → c ≡ place (own_of (take n table) ks) s
  place_found lt q c =
      let l = length-take-le n table fits in
      let f = seek-from (take n table) ks s 0 (omega (arith, l, e)) in
      c ∙ rw (q, e) (omega (arith, f))

  pub place_none : n ≤ i → 0 ≡ place (own_of (take n table) ks) s
  place_none le = let l = length-take-le n table fits in sym (seek-none (take n table) ks s 0 (omega (arith, l, e)))
