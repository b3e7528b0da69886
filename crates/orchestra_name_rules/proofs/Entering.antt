-- The ways through the functions of the names' passes: an instruction's act decides.
use Prim.Native.Nat.{ℕ, zero, suc, ◌+◌, ◌≤◌, ◌<◌}
use native.Mathlib.Omega.{arith}
use native.Mathlib.Numerals.{add-one}
use mathlib.Core.Path.{◌≡◌, refl, sym, ap, ◌∙◌}
use mathlib.Core.List.{List, [], ◌∷◌, ◌++◌}
use mathlib.Core.Bool.{Bool, true, not, ◌&&◌}
use lib.ListN.{length, take, set}
use lib.Seq.{length-take-le, take-suc-set}
use lib.Dec.{ltb}
use borrow.Author.Tests.{lt-ltb, le-ltb}
use Rattle.orchestra_syntax.specs.Names.{Named, symbols, has}
use Rattle.orchestra_syntax.specs.inside.Placed.{place}
use Rattle.orchestra_syntax.specs.declared.OpClass.{OpClass}
use Rattle.orchestra_syntax.specs.declared.OpClass.TheVariants.{Value, Name, Store, Output, If, Else, End, Declare, Instr}
use Rattle.orchestra_name_rules.specs.Entries.{valid, names_after, titles_after, placed_name}
use Rattle.orchestra_name_rules.specs.Table.{own_of, own}
use Rattle.orchestra_name_rules.proofs.Seeking.{symbols-own, length-own}

-- ---- valid

plain-valid : (a : OpClass) (n : ℕ) (ts : List ℕ) (ms : List Named) → (a ≡ Name → ⊥) → (a ≡ Store → ⊥) → (a ≡ Declare → ⊥) → (a ≡ Instr → ⊥)
    → true ≡ valid a n ts ms
plain-valid Value n ts ms p q r s = refl
plain-valid Name n ts ms p q r s = absurd (p refl)
plain-valid Store n ts ms p q r s = absurd (q refl)
plain-valid Output n ts ms p q r s = refl
plain-valid If n ts ms p q r s = refl
plain-valid Else n ts ms p q r s = refl
plain-valid End n ts ms p q r s = refl
plain-valid Declare n ts ms p q r s = absurd (r refl)
plain-valid Instr n ts ms p q r s = absurd (s refl)

module _ (a : OpClass) (n heads count : ℕ) (ts ms : List ℕ) where
  abbrev Valid : Bool → Type 0
  Valid b = (ks : List ℕ) → b ≡ valid a n (take heads ts) (own ms ks count)

  used : (b : Bool) (ks : List ℕ) → b ≡ has n (take count ms) → b ≡ has n (symbols (own ms ks count))
  used b ks e = e ∙ ap (has n) (sym (symbols-own (take count ms) ks))

  pub l-name : {b : Bool} → a ≡ Name → b ≡ has n (take count ms) → Valid b
  l-name {b = b} f e ks = rw f (used b ks e)

  pub l-store : {b : Bool} → a ≡ Store → b ≡ has n (take count ms) → Valid b
  l-store {b = b} f e ks = rw f (used b ks e)

  pub l-declare : {b : Bool} → a ≡ Declare → count ≤ length ms → b ≡ (ltb count 16 && not (has n (take count ms))) → Valid b
  l-declare f le e ks = rw (f, length-own (take count ms) ks, length-take-le count ms le, symbols-own (take count ms) ks) e

  pub l-instr : {b : Bool} → a ≡ Instr → heads ≤ length ts → b ≡ (ltb heads 8 && not (has n (take heads ts))) → Valid b
  l-instr f le e ks = rw (f, length-take-le heads ts le) e

  pub l-other : (a ≡ Name → ⊥) → (a ≡ Store → ⊥) → (a ≡ Declare → ⊥) → (a ≡ Instr → ⊥) → Valid true
  l-other p q r s ks = plain-valid a n (take heads ts) (own ms ks count) p q r s

-- ---- places

unused-placed : (a : OpClass) (n : ℕ) (ms : List Named) → (a ≡ Name → ⊥) → (a ≡ Store → ⊥) → n ≡ placed_name a n ms
unused-placed Value n ms p q = refl
unused-placed Name n ms p q = absurd (p refl)
unused-placed Store n ms p q = absurd (q refl)
unused-placed Output n ms p q = refl
unused-placed If n ms p q = refl
unused-placed Else n ms p q = refl
unused-placed End n ms p q = refl
unused-placed Declare n ms p q = refl
unused-placed Instr n ms p q = refl

module _ (a : OpClass) (n : ℕ) (ms : List Named) where
  pub p-name : {p : ℕ} → a ≡ Name → p ≡ place ms n → p ≡ placed_name a n ms
  p-name f e = rw f e

  pub p-store : {p : ℕ} → a ≡ Store → p ≡ place ms n → p ≡ placed_name a n ms
  p-store f e = rw f e

  pub p-other : (a ≡ Name → ⊥) → (a ≡ Store → ⊥) → n ≡ placed_name a n ms
  p-other p q = unused-placed a n ms p q

-- ---- the instruments after it

module _ (a : OpClass) (n heads : ℕ) (ts : List ℕ) (room : heads ≤ 8) (long : length ts ≡ 8) where
  abbrev Titles : ℕ → List ℕ → Type 0
  Titles r us = take r us ≡ titles_after a n (take heads ts)

  len-titles : length (take heads ts) ≡ heads
  len-titles = length-take-le heads ts (omega (arith, long))

  pub t-instr : a ≡ Instr → heads < 8 → Titles (heads + 1) (set ts heads n)
  t-instr f lt = rw (f, len-titles, lt-ltb heads 8 lt, add-one heads) (take-suc-set ts heads n (omega (arith, long)))

  pub t-full : a ≡ Instr → 8 ≤ heads → Titles heads ts
  t-full f le = rw (f, len-titles, le-ltb heads 8 le)

-- ---- the names after it

own-more : (n s k : ℕ) (ms ks : List ℕ) → n < length ms → n < length ks
    → own (set ms n s) (set ks n k) (suc n) ≡ own ms ks n ++ record { name = s; kind = k } ∷ []
unfolding own_of
own-more n s k [] ks p q = absurd (omega arith)
own-more n s k (m ∷ ms) [] p q = absurd (omega arith)
own-more zero s k (m ∷ ms) (c ∷ ks) p q = refl
own-more (suc n) s k (m ∷ ms) (c ∷ ks) p q = ap (λ l. record { name = m; kind = c } ∷ l) (own-more n s k ms ks (omega arith) (omega arith))

module _ (a : OpClass) (o n count : ℕ) (ms ks : List ℕ) (room : count ≤ 16) (long : length ms ≡ 16) (long-kinds : length ks ≡ 16) where
  abbrev Names : ℕ → List ℕ → List ℕ → Type 0
  Names r ms' ks' = own ms' ks' r ≡ names_after a o n (own ms ks count)

  len-own : length (own ms ks count) ≡ count
  len-own = length-own (take count ms) ks ∙ length-take-le count ms (omega (arith, long))

  pub n-declare : a ≡ Declare → count < 16 → Names (count + 1) (set ms count n) (set ks count o)
  n-declare f lt = rw (f, len-own, lt-ltb count 16 lt, add-one count) (own-more count n o ms ks (omega (arith, long)) (omega (arith, long-kinds)))

  pub n-full : a ≡ Declare → 16 ≤ count → Names count ms ks
  n-full f le = rw (f, len-own, le-ltb count 16 le)

  pub n-instr : a ≡ Instr → Names 0 ms ks
  unfolding own_of
  n-instr f = rw f
