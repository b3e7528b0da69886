-- Place and rate of a coded name are the declared ones.
use Prim.Native.Nat.{ℕ, suc, ◌+◌, ◌*◌, ◌≤◌, ◌<◌}
use native.Mathlib.Omega.{arith}
use mathlib.Core.Path.{◌≡◌, refl, sym, ap, ◌∙◌, subst}
use mathlib.Core.Bool.{Bool, true, false, not, ◌&&◌, ◌||◌, cond, true≢false}
use mathlib.Core.List.{List, [], ◌∷◌, ◌++◌}
use lib.ListN.{length}
use lib.Dec.{eqb, leb}
use borrow.Author.Tests.{eqb-true, leb-true, eq-eqb, not-true}
use Rattle.base_laws.proofs.Choice.{both_true}
use Rattle.orchestra_syntax.specs.Tree.{Instrument}
use Rattle.orchestra_syntax.specs.Names.{Named, names_of, symbols, has, apart, distinct, known, obeys_name_rules}
use Rattle.orchestra_syntax.specs.Rates.{Rate, i_rate, k_rate, a_rate, rate_of_kind, rate_of}
use Rattle.orchestra_syntax.specs.inside.Placed as placed
use Rattle.orchestra_syntax.specs.inside.Placed.{speed, place_from, place}
use Rattle.orchestra_syntax.specs.inside.Translation.{DeclaredPlaces, PlacesApart}

-- an instrument's names: at most 16, each once, and every name used is declared
pub record Kept (x : Instrument) : Type 0 where
  pub few : length (names_of x) ≤ 16
  pub once : distinct (symbols (names_of x)) ≡ true
  pub declared : known (symbols (names_of x)) x.body ≡ true

pub kept : (x : Instrument) → obeys_name_rules x ≡ true → Kept x
kept x e =
    let p = both_true (leb (length (names_of x)) 16) (distinct (symbols (names_of x)) && known (symbols (names_of x)) x.body) e in
    let q = both_true (distinct (symbols (names_of x))) (known (symbols (names_of x)) x.body) p.1 in
    record { few = leb-true (length (names_of x)) 16 p.0; once = q.0; declared = q.1 }

-- how many names stand before a name
unfoldable pub index : ℕ → List Named → ℕ
index n [] = 0
index n (m ∷ ms) = cond (eqb m.name n) 0 (suc (index n ms))

-- the parts of a placed name
speed-low : (r : Rate) → speed r ≤ 2
speed-low i_rate = omega arith
speed-low k_rate = omega arith
speed-low a_rate = omega arith

abbrev Coded : ℕ → ℕ → List Named → Type 0
Coded p n ms = (place_from p n ms ≡ 16 * speed (rate_of ms n) + (p + index n ms)) × (index n ms < length ms)

coded-at : (p n : ℕ) (ms : List Named) → has n (symbols ms) ≡ true → Coded p n ms
unfolding has place_from rate_of index
coded-at p n [] e = absurd (true≢false (sym e))
coded-at p n (m ∷ ms) e = go (eqb m.name n) (λ h. coded-at (suc p) n ms h) e
  where
    go : (b : Bool) → (has n (symbols ms) ≡ true → Coded (suc p) n ms) → (b || has n (symbols ms)) ≡ true
        → (cond b (16 * speed (rate_of_kind m.kind) + p) (place_from (suc p) n ms) ≡ 16 * speed (cond b (rate_of_kind m.kind) (rate_of ms n)) + (p + cond b 0 (suc (index n ms))))
        × (cond b 0 (suc (index n ms)) < suc (length ms))
    go true h e = (omega arith, omega arith)
    go false h e = (omega (arith, (h e).0), omega (arith, (h e).1))

-- the place of a declared name among at most 16
pub place_is : (n : ℕ) (ms : List Named) → length ms ≤ 16 → has n (symbols ms) ≡ true → placed.place_of (place ms n) ≡ index n ms
place_is n ms l h = let c = coded-at 0 n ms h in omega (arith, c.0, c.1)

pub place-low : (n : ℕ) (ms : List Named) → length ms ≤ 16 → has n (symbols ms) ≡ true → placed.place_of (place ms n) < 16
place-low n ms l h = let c = coded-at 0 n ms h in omega (arith, c.0, c.1)

-- the rate of any name
pub rate-is : (p n : ℕ) (ms : List Named) → p + length ms ≤ 16 → placed.rate_of (place_from p n ms) ≡ speed (rate_of ms n)
unfolding place_from rate_of
rate-is p n [] l = refl
rate-is p n (m ∷ ms) l = go (eqb m.name n) (rate-is (suc p) n ms (omega arith))
  where
    go : (b : Bool) → placed.rate_of (place_from (suc p) n ms) ≡ speed (rate_of ms n)
        → placed.rate_of (cond b (16 * speed (rate_of_kind m.kind) + p) (place_from (suc p) n ms)) ≡ speed (cond b (rate_of_kind m.kind) (rate_of ms n))
    go true h = omega (arith, speed-low (rate_of_kind m.kind))
    go false h = h

-- ---- each name once

has_end : (x n : ℕ) (ns : List ℕ) → has x (ns ++ n ∷ []) ≡ false → (has x ns ≡ false) × (eqb n x ≡ false)
unfolding has
has_end x n [] e = go (eqb n x) e
  where
    go : (b : Bool) → (b || false) ≡ false → (false ≡ false) × (b ≡ false)
    go true e = absurd (true≢false e)
    go false e = (refl, refl)
has_end x n (m ∷ ns) e = go (eqb m x) (λ h. has_end x n ns h) e
  where
    go : (b : Bool) → (has x (ns ++ n ∷ []) ≡ false → (has x ns ≡ false) × (eqb n x ≡ false)) → (b || has x (ns ++ n ∷ [])) ≡ false
        → ((b || has x ns) ≡ false) × (eqb n x ≡ false)
    go true h e = absurd (true≢false e)
    go false h e = h e

-- a name that comes later is none of those before
later : (before us vs : List ℕ) (n : ℕ) → apart before (us ++ n ∷ vs) ≡ true → has n before ≡ false
unfolding apart
later before [] vs n e = not-true (has n before) (both_true (not (has n before)) (apart (before ++ n ∷ []) vs) e).0
later before (u ∷ us) vs n e =
    (has_end n u before (later (before ++ u ∷ []) us vs n (both_true (not (has u before)) (apart (before ++ u ∷ []) (us ++ n ∷ vs)) e).1)).0

symbols-append : (us vs : List Named) → symbols (us ++ vs) ≡ symbols us ++ symbols vs
symbols-append [] vs = refl
symbols-append (u ∷ us) vs = ap (λ l. u.name ∷ l) (symbols-append us vs)

refl-eqb : (n : ℕ) → eqb n n ≡ true
refl-eqb n = eq-eqb n n refl

record At (us : List Named) (m : Named) (vs : List Named) : Type 0 where
  place : index m.name (us ++ m ∷ vs) ≡ length us
  rate : rate_of (us ++ m ∷ vs) m.name ≡ rate_of_kind m.kind
  there : has m.name (symbols (us ++ m ∷ vs)) ≡ true

at_split : (before : List ℕ) (us : List Named) (m : Named) (vs : List Named) → apart before (symbols us ++ m.name ∷ symbols vs) ≡ true → At us m vs
unfolding apart index rate_of has
at_split before [] m vs e = let r = refl-eqb m.name in record { place = rw r; rate = rw r; there = rw r }
at_split before (u ∷ us) m vs e =
    let rest = (both_true (not (has u.name before)) (apart (before ++ u.name ∷ []) (symbols us ++ m.name ∷ symbols vs)) e).1 in
    let h = at_split (before ++ u.name ∷ []) us m vs rest in
    let d = (has_end m.name u.name before (later (before ++ u.name ∷ []) (symbols us) (symbols vs) m.name rest)).1 in
    record { place = rw d (ap suc h.place); rate = rw d h.rate; there = rw d h.there }

pub declared-places : DeclaredPlaces
declared-places x us m vs e s =
    let q = kept x e in
    let ms = us ++ m ∷ vs in
    let o : distinct (symbols us ++ m.name ∷ symbols vs) ≡ true = ap distinct (sym (symbols-append us (m ∷ vs))) ∙ ap (λ l. distinct (symbols l)) (sym s) ∙ q.once in
    let h = at_split [] us m vs o in
    let l : length ms ≤ 16 = subst (λ (z : List Named). length z ≤ 16) s q.few in
    let c : (placed.place_of (place ms m.name) ≡ length us) × (placed.rate_of (place ms m.name) ≡ speed (rate_of_kind m.kind)) =
    (place_is m.name ms l h.there ∙ h.place, rate-is 0 m.name ms (omega arith) ∙ ap speed h.rate) in
    rw s c

index-apart : (n p : ℕ) (ms : List Named) → has n (symbols ms) ≡ true → has p (symbols ms) ≡ true → index n ms ≡ index p ms → n ≡ p
unfolding index has
index-apart n p [] h g e = absurd (true≢false (sym h))
index-apart n p (m ∷ ms) h g e = go (eqb m.name n) (eqb m.name p) refl refl (λ x y z. index-apart n p ms x y z) h g e
  where
    go : (b c : Bool) → eqb m.name n ≡ b → eqb m.name p ≡ c → (has n (symbols ms) ≡ true → has p (symbols ms) ≡ true → index n ms ≡ index p ms → n ≡ p)
        → (b || has n (symbols ms)) ≡ true → (c || has p (symbols ms)) ≡ true → cond b 0 (suc (index n ms)) ≡ cond c 0 (suc (index p ms)) → n ≡ p
    go true true u v ih h g e = sym (eqb-true m.name n u) ∙ eqb-true m.name p v
    go true false u v ih h g e = absurd (omega (arith, e))
    go false true u v ih h g e = absurd (omega (arith, e))
    go false false u v ih h g e = ih h g (omega (arith, e))

pub apart_in : (ms : List Named) (n p : ℕ) → length ms ≤ 16 → has n (symbols ms) ≡ true → has p (symbols ms) ≡ true
    → placed.place_of (place ms n) ≡ placed.place_of (place ms p) → n ≡ p
apart_in ms n p l h g e = index-apart n p ms h g (sym (place_is n ms l h) ∙ e ∙ place_is p ms l g)

pub places-apart : PlacesApart
places-apart x n p e h g q = apart_in (names_of x) n p (kept x e).few h g q
