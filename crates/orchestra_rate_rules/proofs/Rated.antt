-- The ways through the functions of the rates' pass.
use Prim.Native.Nat.{ℕ, ◌+◌, ◌-◌, ◌≤◌, ◌<◌, max}
use mathlib.Core.Path.{◌≡◌, refl, sym, ap, ◌∙◌}
use mathlib.Core.Bool.{Bool, true, false, ◌&&◌}
use lib.Dec.{leb}
use borrow.Author.Tests.{lt-ltb, le-ltb, le-leb, lt-leb}
use Rattle.orchestra_syntax.specs.inside.Program.{op_class_of}
use Rattle.orchestra_syntax.specs.inside.Placed.{rate_of}
use Rattle.orchestra_syntax.specs.declared.OpClass.{OpClass}
use Rattle.orchestra_syntax.specs.declared.OpClass.TheVariants.{Value, Name, Store, Output, If, Else, End, Declare, Instr}
use Rattle.orchestra_rate_rules.specs.Change.{rates, guard, entered, left, rates_valid, rates_after}
use Rattle.orchestra_rate_rules.specs.declared.Rates.{Rates}

module _ (q : Rates) where
  pub guard-a : 0 < q.adeep → 2 ≡ guard q
  guard-a h = rw (lt-ltb 0 q.adeep h)

  pub guard-k : q.adeep ≤ 0 → 0 < q.kdeep → 1 ≡ guard q
  guard-k h k = rw (le-ltb 0 q.adeep h, lt-ltb 0 q.kdeep k)

  pub guard-i : q.adeep ≤ 0 → q.kdeep ≤ 0 → 0 ≡ guard q
  guard-i h k = rw (le-ltb 0 q.adeep h, le-ltb 0 q.kdeep k)

  pub assigns-yes : (r g : ℕ) → q.fastest ≤ r → g ≡ guard q → leb g r ≡ (leb q.fastest r && leb (guard q) r)
  assigns-yes r g h e = rw (le-leb q.fastest r h) (ap (λ (x : ℕ). leb x r) e)

  pub assigns-no : (r : ℕ) → r < q.fastest → false ≡ (leb q.fastest r && leb (guard q) r)
  assigns-no r h = rw (lt-leb q.fastest r h)

  pub entered-a : (m : ℕ) → 2 ≤ m → rates 0 (q.kdeep + 1) (q.adeep + 1) ≡ entered m q
  entered-a m h = rw (le-leb 2 m h)

  pub entered-k : (m : ℕ) → m < 2 → 1 ≤ m → rates 0 (q.kdeep + 1) q.adeep ≡ entered m q
  entered-k m h k = rw (lt-leb 2 m h, le-leb 1 m k)

  pub entered-i : (m : ℕ) → m < 2 → m < 1 → rates 0 q.kdeep q.adeep ≡ entered m q
  entered-i m h k = rw (lt-leb 2 m h, lt-leb 1 m k)

  pub left_is : (k a : ℕ) → k ≡ q.kdeep - 1 → a ≡ q.adeep - 1 → rates q.fastest k a ≡ left q
  left_is k a e f = rw (e, f)

module _ (o n : ℕ) (q : Rates) {a : OpClass} (act : a ≡ op_class_of o) where
  abbrev Valid : Bool → Type 0
  Valid b = b ≡ rates_valid (op_class_of o) n q

  pub l-store : {b : Bool} {r : ℕ} → a ≡ Store → r ≡ rate_of n → b ≡ (leb q.fastest r && leb (guard q) r) → Valid b
  l-store f e d = rw (sym act ∙ f, ← e) d

  pub l-other : (a ≡ Store → ⊥) → Valid true
  l-other f = rw (sym act) (go a f)
    where
      go : (b : OpClass) → (b ≡ Store → ⊥) → true ≡ rates_valid b n q
      go Value f = refl
      go Name f = refl
      go Store f = absurd (f refl)
      go Output f = refl
      go If f = refl
      go Else f = refl
      go End f = refl
      go Declare f = refl
      go Instr f = refl

  abbrev After : Rates → Type 0
  After r = r ≡ rates_after (op_class_of o) n q

  pub a-value : a ≡ Value → After q
  a-value f = rw (sym act ∙ f)

  pub a-name : {x m : ℕ} {r : Rates} → a ≡ Name → x ≡ rate_of n → m ≡ max q.fastest x → r ≡ rates m q.kdeep q.adeep → After r
  a-name f e d g = rw (sym act ∙ f, ← e, ← d) g

  pub a-store : {r : Rates} → a ≡ Store → r ≡ rates 0 q.kdeep q.adeep → After r
  a-store f g = rw (sym act ∙ f) g

  pub a-output : {r : Rates} → a ≡ Output → r ≡ rates 0 q.kdeep q.adeep → After r
  a-output f g = rw (sym act ∙ f) g

  pub a-if : {x m : ℕ} {r : Rates} → a ≡ If → x ≡ guard q → m ≡ max x q.fastest → r ≡ entered m q → After r
  a-if f e d g = rw (sym act ∙ f) (g ∙ ap (λ (y : ℕ). entered y q) (d ∙ ap (λ (y : ℕ). max y q.fastest) e))

  pub a-else : a ≡ Else → After q
  a-else f = rw (sym act ∙ f)

  pub a-end : {r : Rates} → a ≡ End → r ≡ left q → After r
  a-end f g = rw (sym act ∙ f) g

  pub a-declare : a ≡ Declare → After q
  a-declare f = rw (sym act ∙ f)

  pub a-instr : a ≡ Instr → After q
  a-instr f = rw (sym act ∙ f)
