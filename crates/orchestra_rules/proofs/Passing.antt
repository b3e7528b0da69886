-- The loops over a program: the pass over what is left of it.
use Prim.Native.Nat.{ℕ, zero, suc, ◌+◌, ◌-◌, ◌≤◌, ◌<◌, max}
use native.Mathlib.Omega.{arith}
use native.Mathlib.Numerals.{add-one}
use mathlib.Core.Path.{◌≡◌, refl, sym, ap, ap₂, ◌∙◌, subst}
use mathlib.Core.List.{List, [], ◌∷◌, ◌++◌, append_assoc, append-nil}
use mathlib.Core.Bool.{Bool, true, false, not, ◌&&◌}
use lib.ListN.{length, take, drop, get_or, set, length-set, drop_of_length-le, replicate, take-append-drop}
use lib.Seq.{drop-cons, drop-set-lt, take-suc-set, take_all}
use borrow.Author.Tests.{le-leb, not-true, not-false}
use Rattle.orchestra_syntax.specs.inside.Program.{op_class_of}
use Rattle.orchestra_syntax.specs.Names.{Named}
use Rattle.orchestra_syntax.specs.declared.OpClass.{OpClass}
use Rattle.orchestra_syntax.specs.declared.OpClass.TheVariants.{Value, Name, Store, Output, If, Else, End, Declare, Instr}
use Rattle.orchestra_name_rules.specs.Entries.{valid, names_after, titles_after, placed_name}
use Rattle.orchestra_rules.specs.Naming.{names_from, placed_from, names_pass, places_pass}
use Rattle.orchestra_rate_rules.specs.Change.{rates, guard, entered, rates_valid, rates_after}
use Rattle.orchestra_rules.specs.Rating.{rates_from, rates_pass}
use Rattle.orchestra_name_rules.specs.Table.{own_of, own}
use Rattle.orchestra_rate_rules.specs.declared.Rates.{Rates}

here : (l : List ℕ) (i : ℕ) → i < length l → drop i l ≡ get_or l i 0 ∷ drop (i + 1) l
here l i lt = drop-cons l i 0 lt ∙ ap (λ n. get_or l i 0 ∷ drop n l) (sym (add-one i))

past : (l : List ℕ) (i : ℕ) → length l ≤ i → drop i l ≡ []
past l i le = drop_of_length-le l {i = i} le

-- ---- the name rules

no_more : (os ts : List ℕ) (ms : List Named) → names_from os [] ts ms ≡ true
unfolding names_from
no_more [] ts ms = refl
no_more (o ∷ os) ts ms = refl

-- ts is the table of the instruments named so far, ms and ks are those of this one's names and their kinds
pub record Inv (os ws ts ms ks : List ℕ) (heads count pc : ℕ) : Type 0 where
  pub inside : pc ≤ length os
  pub eight : heads ≤ 8
  pub sixteen : count ≤ 16
  pub long-titles : length ts ≡ 8
  pub long-symbols : length ms ≡ 16
  pub long-kinds : length ks ≡ 16
  pub is : names_from (drop pc os) (drop pc ws) (take heads ts) (own ms ks count) ≡ names_pass os ws

pub starts : (os ws : List ℕ) → Inv os ws (replicate 8 0) (replicate 16 0) (replicate 16 0) 0 0 0
unfolding own_of
starts os ws =
    record { inside = omega arith; eight = omega arith; sixteen = omega arith; long-titles = refl; long-symbols = refl; long-kinds = refl; is = refl }

module _ {os ws ts ms ks : List ℕ} {heads count pc : ℕ} (v : Inv os ws ts ms ks heads count pc) where
  pub ends : length os ≤ pc → true ≡ names_pass os ws
  unfolding names_from
  ends le = rw (past os pc le) at v.is

  pub ends-short : length ws ≤ pc → true ≡ names_pass os ws
  ends-short le = sym (no_more (drop pc os) (take heads ts) (own ms ks count)) ∙ rw (past ws pc le) at v.is

  -- the instruction here and its name
  abbrev o : ℕ
  o = get_or os pc 0

  abbrev w : ℕ
  w = get_or ws pc 0

  module _ {a : OpClass} {b : Bool} (p : pc < length os) (q : pc < length ws) (f : a ≡ op_class_of o) (l : (ks : List ℕ) → b ≡ valid a w (take heads ts) (own ms ks count)) where
    step : (b && names_from (drop (pc + 1) os) (drop (pc + 1) ws) (titles_after a w (take heads ts)) (names_after a o w (own ms ks count))) ≡ names_pass os ws
    unfolding names_from
    step = rw (l ks, f) (rw (here os pc p, here ws pc q) at v.is)

    pub fails : not b ≡ true → false ≡ names_pass os ws
    fails n = let f = not-true b n in rw f at step

    pub again : not b ≡ false → (heads' count' : ℕ) (ts' ms' ks' : List ℕ)
        → heads' ≤ 8 → take heads' ts' ≡ titles_after a w (take heads ts) → length ts' ≡ length ts
        → count' ≤ 16 → own ms' ks' count' ≡ names_after a o w (own ms ks count) → length ms' ≡ length ms → length ks' ≡ length ks
        → Inv os ws ts' ms' ks' heads' count' (pc + 1)
    again n heads' count' ts' ms' ks' eight titles-are t sixteen names-are m k =
        let f = not-false b n in
        record {
          inside = omega arith;
          eight = eight;
          sixteen = sixteen;
          long-titles = t ∙ v.long-titles;
          long-symbols = m ∙ v.long-symbols;
          long-kinds = k ∙ v.long-kinds;
          is = ap₂ (names_from (drop (pc + 1) os) (drop (pc + 1) ws)) titles-are names-are ∙ rw f at step;
        }

-- ---- names put by their places

pub record Put (os ws₀ ws ms ks : List ℕ) (count pc : ℕ) : Type 0 where
  pub inside : pc ≤ length os
  pub size : length ws ≡ length ws₀
  pub sixteen : count ≤ 16
  pub long-symbols : length ms ≡ 16
  pub long-kinds : length ks ≡ 16
  pub is : take pc ws ++ placed_from (drop pc os) (drop pc ws) (own ms ks count) ≡ places_pass os ws₀

pub put-starts : (os ws : List ℕ) → Put os ws ws (replicate 16 0) (replicate 16 0) 0 0
unfolding own_of
put-starts os ws = record { inside = omega arith; size = refl; sixteen = omega arith; long-symbols = refl; long-kinds = refl; is = refl }

none_left : (os : List ℕ) (ms : List Named) → placed_from os [] ms ≡ []
unfolding placed_from
none_left [] ms = refl
none_left (o ∷ os) ms = refl

module _ {os ws₀ ws ms ks : List ℕ} {count pc : ℕ} (v : Put os ws₀ ws ms ks count pc) where
  pub put-ends : length os ≤ pc → ws ≡ places_pass os ws₀
  unfolding placed_from
  put-ends le = sym (take-append-drop pc ws) ∙ rw (past os pc le) at v.is

  pub put-short : length ws ≤ pc → ws ≡ places_pass os ws₀
  put-short le =
      let e = rw (past ws pc le, none_left) at v.is in
      sym (take_all pc ws le) ∙ sym (append-nil (take pc ws)) ∙ e

  pub put-again : {a : OpClass} {p : ℕ} → pc < length os → pc < length ws → a ≡ op_class_of (get_or os pc 0) → p ≡ placed_name a (get_or ws pc 0) (own ms ks count) → (count' : ℕ) (ms' ks' : List ℕ)
      → count' ≤ 16 → own ms' ks' count' ≡ names_after a (get_or os pc 0) (get_or ws pc 0) (own ms ks count) → length ms' ≡ length ms → length ks' ≡ length ks
      → Put os ws₀ (set ws pc p) ms' ks' count' (pc + 1)
  unfolding placed_from
  put-again {a} {p} x y f g count' ms' ks' sixteen names-are m k =
      let i = rw (here os pc x, here ws pc y, ← f, ← g) at v.is in
      record {
        inside = omega arith;
        size = length-set ws pc p ∙ v.size;
        sixteen = sixteen;
        long-symbols = m ∙ v.long-symbols;
        long-kinds = k ∙ v.long-kinds;
        is = rw (add-one pc, take-suc-set ws pc p y, drop-set-lt (suc pc) ws pc p (omega arith), ← add-one pc, names-are, append_assoc) i;
      }

-- ---- the rate rules

pub record Rated (os ws : List ℕ) (q : Rates) (pc : ℕ) : Type 0 where
  pub inside : pc ≤ length os
  pub low-k : q.kdeep ≤ pc
  pub low-a : q.adeep ≤ pc
  pub is : rates_from (drop pc os) (drop pc ws) q ≡ rates_pass os ws

no-rates : (os : List ℕ) (q : Rates) → rates_from os [] q ≡ true
unfolding rates_from
no-rates [] q = refl
no-rates (o ∷ os) q = refl

pub rated-starts : (os ws : List ℕ) → Rated os ws (rates 0 0 0) 0
rated-starts os ws = record { inside = omega arith; low-k = omega arith; low-a = omega arith; is = refl }

entered-low : (m : ℕ) (q : Rates) → ((entered m q).kdeep ≤ q.kdeep + 1) × ((entered m q).adeep ≤ q.adeep + 1)
entered-low zero q = (omega arith, omega arith)
entered-low (suc zero) q = (omega arith, omega arith)
entered-low (suc (suc m)) q = rw (le-leb 2 (suc (suc m)) (omega arith)) (omega arith, omega arith)

after-low : (a : OpClass) (n : ℕ) (q : Rates) → ((rates_after a n q).kdeep ≤ q.kdeep + 1) × ((rates_after a n q).adeep ≤ q.adeep + 1)
after-low Value n q = (omega arith, omega arith)
after-low Name n q = (omega arith, omega arith)
after-low Store n q = (omega arith, omega arith)
after-low Output n q = (omega arith, omega arith)
after-low If n q = entered-low (max (guard q) q.fastest) q
after-low Else n q = (omega arith, omega arith)
after-low End n q = (omega arith, omega arith)
after-low Declare n q = (omega arith, omega arith)
after-low Instr n q = (omega arith, omega arith)

module _ {os ws : List ℕ} {q : Rates} {pc : ℕ} (v : Rated os ws q pc) where
  pub rated-ends : length os ≤ pc → true ≡ rates_pass os ws
  unfolding rates_from
  rated-ends le = rw (past os pc le) at v.is

  pub rated-short : length ws ≤ pc → true ≡ rates_pass os ws
  rated-short le = sym (no-rates (drop pc os) q) ∙ rw (past ws pc le) at v.is

  rated-step : (o w : ℕ) (b : Bool) → pc < length os → pc < length ws → o ≡ get_or os pc 0 → w ≡ get_or ws pc 0 → b ≡ rates_valid (op_class_of o) w q
      → (b && rates_from (drop (pc + 1) os) (drop (pc + 1) ws) (rates_after (op_class_of o) w q)) ≡ rates_pass os ws
  unfolding rates_from
  rated-step o w b p r d e l = rw (l, d, e) (rw (here os pc p, here ws pc r) at v.is)

  pub rated-fails : (o w : ℕ) {b : Bool} → pc < length os → pc < length ws → o ≡ get_or os pc 0 → w ≡ get_or ws pc 0 → b ≡ rates_valid (op_class_of o) w q → not b ≡ true
      → false ≡ rates_pass os ws
  rated-fails o w {b} p r d e l n = let f = not-true b n in rw f at (rated-step o w b p r d e l)

  pub rated-again : (o w : ℕ) {b : Bool} {r : Rates} → pc < length os → pc < length ws → o ≡ get_or os pc 0 → w ≡ get_or ws pc 0 → b ≡ rates_valid (op_class_of o) w q → not b ≡ false
      → r ≡ rates_after (op_class_of o) w q → Rated os ws r (pc + 1)
  rated-again o w {b} p r d e l n x =
      let f = not-false b n in
      let s = rw f at (rated-step o w b p r d e l) in
      let y = after-low (op_class_of o) w q in
      let lk = v.low-k in
      let la = v.low-a in
      let g : Rated os ws (rates_after (op_class_of o) w q) (pc + 1) = record { inside = omega arith; low-k = omega (arith, y.0, lk); low-a = omega (arith, y.1, la); is = s } in
      subst (λ (z : Rates). Rated os ws z (pc + 1)) (sym x) g
