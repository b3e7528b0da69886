-- The walk over a list of names: what lies ahead decides, else what was met. Assumes nothing.
use Prim.Native.Nat.{ℕ, suc, ◌+◌, ◌-◌, ◌<◌, ◌≤◌}
use mathlib.Core.Path.{◌≡◌, refl, sym, ap, ap₂, ◌∙◌, subst}
use mathlib.Core.Bool.{Bool, true, false, cond}
use mathlib.Core.List.{List, [], ◌∷◌}
use mathlib.Core.Option.{Option, none, some}
use native.Mathlib.Omega.{arith}
use native.Mathlib.Nat.{lt_of_not-le, sub-zero}
use native.Mathlib.Numerals.{add-one}
use native.Mathlib.Decide.{dec_le, ℕ_discrete}
use borrow.Author.Tests.{le-leb, lt-leb, eq-eqb, ne_eqb}
use lib.ListN.{length, get_or, take, drop, length-drop, drop_of_length-le}
use lib.Seq.{drop-cons, drop-drop}
use lib.Dec.{leb, eqb}
use Rattle.base_laws.proofs.Choice.{cond-true, cond-false}
use Rattle.symbol_names.specs.Form.{Names}
use Rattle.symbol_names.specs.inside.Asking.{before, list_of, name_among, name_in}
use Rattle.symbol_names.specs.Asking.{unless_empty, name_found}
use Rattle.symbol_names.proofs.Lists.{list-none, list-entry, list-cut}
use Rattle.symbol_lookup.specs.Places.{between, Stands}
use Rattle.std.specs.declared.ops.Range.{Range}

abbrev place : ℕ → ℕ → Range ℕ
place f t = record { start = f; end = t }

-- the symbol's name where the names ahead are those from symbol i on; that of a symbol before them was met
abbrev ahead : Option Names → ℕ → ℕ → List ℕ → List ℕ
ahead none i symbol met = []
ahead (some names) i symbol met = cond (leb i symbol) (get_or names (symbol - i) met) met

-- one name is passed
passed : (o : Option Names) (i symbol : ℕ) (name met : List ℕ) → ahead (before name o) i symbol met ≡ ahead o (i + 1) symbol (cond (eqb i symbol) name met)
passed none i symbol name met = refl
passed (some names) i symbol name met = go (dec_le i symbol) (ℕ_discrete i symbol)
  where
    go : Dec (i ≤ symbol) → Dec (i ≡ symbol)
        → cond (leb i symbol) (get_or (name ∷ names) (symbol - i) met) met
        ≡ cond (leb (i + 1) symbol) (get_or names (symbol - (i + 1)) (cond (eqb i symbol) name met)) (cond (eqb i symbol) name met)
    go (yes h) (yes e) =
        let g : symbol < i + 1 = omega arith in
        let z : symbol - i ≡ 0 = omega arith in
        rw (le-leb _ _ h, lt-leb _ _ g, eq-eqb _ _ e, z)
    go (yes h) (no n) =
        let g : i + 1 ≤ symbol = omega (arith, n) in
        let z : symbol - i ≡ suc (symbol - (i + 1)) = omega arith in
        rw (le-leb _ _ h, le-leb _ _ g, ne_eqb _ _ n, z)
    go (no h) e =
        let l = lt_of_not-le h in
        let g : symbol < i + 1 = omega arith in
        let n : i ≡ symbol → ⊥ = λ f. omega arith in
        rw (lt-leb _ _ l, lt-leb _ _ g, ne_eqb _ _ n)

nothing-ahead : (i symbol : ℕ) (met : List ℕ) → ahead (some []) i symbol met ≡ met
nothing-ahead i symbol met = go (leb i symbol)
  where
    go : (t : Bool) → cond t met met ≡ met
    go true = refl
    go false = refl

pub record Walked (s : List ℕ) (symbol at i : ℕ) (p : Range ℕ) : Type 0 where
  pub counted : i ≤ at
  pub inside : at ≤ length s
  pub ordered : p.start ≤ p.end
  pub within : p.end ≤ length s
  pub name : ahead (list_of (drop at s)) i symbol (between s p) ≡ name_in s symbol

pub starts : (s : List ℕ) (symbol : ℕ) → Walked s symbol 0 0 (place 0 0)
unfolding between name_in
starts s symbol = record { counted = omega arith; inside = omega arith; ordered = omega arith; within = omega arith; name = go (list_of s) }
  where
    go : (o : Option Names) → ahead o 0 symbol [] ≡ name_among o symbol
    go none = refl
    go (some names) = let h : 0 ≤ symbol = omega arith in rw (le-leb _ _ h, sub-zero symbol)

-- a length byte and its bytes stand there
pub again : {s : List ℕ} {symbol at i b : ℕ} {p q : Range ℕ} → Walked s symbol at i p → at < length s → b ≡ get_or s at 0 → b ≤ length s - (at + 1)
    → q ≡ cond (eqb i symbol) (place (at + 1) (at + 1 + b)) p → Walked s symbol (at + 1 + b) (i + 1) q
unfolding between
again {s} {symbol} {at} {i} {b} {p} {q} w h e k f = subst (Walked s symbol (at + 1 + b) (i + 1)) (sym f) (go (eqb i symbol) refl)
  where
    new : Range ℕ
    new = place (at + 1) (at + 1 + b)

    rest : List ℕ
    rest = drop (suc at) s

    stands : drop at s ≡ b ∷ rest
    stands = drop-cons s at 0 h ∙ ap (λ (x : ℕ). x ∷ rest) (sym e)

    listed : list_of (drop at s) ≡ before (take b rest) (list_of (drop (at + 1 + b) s))
    listed =
        let d : length rest ≡ length s - suc at = length-drop (suc at) s in
        let m : suc at + b ≡ at + 1 + b = omega arith in
        ap list_of stands ∙ list-entry b rest (omega arith) ∙ ap (λ (x : List ℕ). before (take b rest) (list_of x)) (drop-drop b (suc at) s ∙ ap (λ (x : ℕ). drop x s) m)

    own : between s new ≡ take b rest
    own = let m : at + 1 + b - (at + 1) ≡ b = omega arith in ap₂ (λ (x y : ℕ). take x (drop y s)) m (add-one at)

    step : (t : Bool) → eqb i symbol ≡ t → cond t (take b rest) (between s p) ≡ between s (cond t new p)
    step true g = sym own
    step false g = refl

    named : (t : Bool) → eqb i symbol ≡ t → ahead (list_of (drop (at + 1 + b) s)) (i + 1) symbol (between s (cond t new p)) ≡ name_in s symbol
    named t g =
        ap (ahead (list_of (drop (at + 1 + b) s)) (i + 1) symbol) (sym (ap (λ (u : Bool). cond u (take b rest) (between s p)) g ∙ step t g))
        ∙ sym (passed (list_of (drop (at + 1 + b) s)) i symbol (take b rest) (between s p))
        ∙ ap (λ (o : Option Names). ahead o i symbol (between s p)) (sym listed) ∙ w.name

    go : (t : Bool) → eqb i symbol ≡ t → Walked s symbol (at + 1 + b) (i + 1) (cond t new p)
    go true g = record { counted = omega (arith, w.counted); inside = omega arith; ordered = omega arith; within = omega arith; name = named true g }
    go false g = record { counted = omega (arith, w.counted); inside = omega arith; ordered = w.ordered; within = w.within; name = named false g }

-- the list is cut there
pub cut-there : {s : List ℕ} {symbol at i b : ℕ} {p : Range ℕ} → Walked s symbol at i p → at < length s → b ≡ get_or s at 0 → length s - (at + 1) < b
    → Stands s symbol (place 0 0)
unfolding between
cut-there {s} {symbol} {at} {i} {b} {p} w h e k =
    let d : length (drop (suc at) s) ≡ length s - suc at = length-drop (suc at) s in
    let none-there : list_of (drop at s) ≡ none =
    ap list_of (drop-cons s at 0 h ∙ ap (λ (x : ℕ). x ∷ drop (suc at) s) (sym e)) ∙ list-cut b (drop (suc at) s) (omega arith) in
    record {
      ordered = omega arith;
      within = omega arith;
      name = sym (ap (λ (o : Option Names). ahead o i symbol (between s p)) none-there) ∙ w.name;
    }

pub ends : {s : List ℕ} {symbol at i : ℕ} {p : Range ℕ} → Walked s symbol at i p → length s ≤ at → Stands s symbol p
ends {s} {symbol} {at} {i} {p} w h =
    record {
      ordered = w.ordered;
      within = w.within;
      name =
          sym (ap (λ (o : Option Names). ahead o i symbol (between s p)) (ap list_of (drop_of_length-le s {i = at} h) ∙ list-none) ∙ nothing-ahead i symbol (between s p))
          ∙ w.name;
    }

pub is-noted : {i wanted : ℕ} (its old : Range ℕ) → i ≡ wanted → its ≡ cond (eqb i wanted) its old
is-noted its old e = sym (cond-true its old (eq-eqb _ _ e))

pub not_noted : {i wanted : ℕ} (its old : Range ℕ) → (i ≡ wanted → ⊥) → old ≡ cond (eqb i wanted) its old
not_noted its old n = sym (cond-false its old (ne_eqb _ _ n))

pub name-there : (s : List ℕ) (symbol : ℕ) (p : Range ℕ) → Stands s symbol p → take (p.end - p.start) (drop p.start s) ≡ name_in s symbol
unfolding between
name-there s symbol p h = h.name

-- ---- the piece's, else the panel's own

pub in-piece : {name : List ℕ} (piece own : List ℕ) (symbol : ℕ) → name ≡ name_in piece symbol → (length name ≡ 0 → ⊥) → name ≡ name_found symbol piece own
unfolding name_found
in-piece {name} piece own symbol e h = go name h ∙ ap (λ (n : List ℕ). unless_empty n (name_in own symbol)) e
  where
    go : (n : List ℕ) → (length n ≡ 0 → ⊥) → n ≡ unless_empty n (name_in own symbol)
    go [] g = absurd (g refl)
    go (b ∷ n) g = refl

pub in-own : {name other : List ℕ} (piece own : List ℕ) (symbol : ℕ) → name ≡ name_in piece symbol → length name ≡ 0 → other ≡ name_in own symbol
    → other ≡ name_found symbol piece own
unfolding name_found
in-own {name} {other} piece own symbol e h f = go name h ∙ ap₂ unless_empty e f
  where
    go : (n : List ℕ) → length n ≡ 0 → other ≡ unless_empty n other
    go [] g = refl
    go (b ∷ n) g = absurd (omega arith)
