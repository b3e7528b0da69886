-- The ways through the functions that measure tokens.
use Prim.Native.Nat.{ℕ, ◌+◌, ◌-◌, ◌≤◌, ◌<◌}
use native.Mathlib.Numerals.{add-one}
use native.Mathlib.Nat.{add-zero}
use mathlib.Core.Path.{◌≡◌, refl, sym}
use mathlib.Core.Bool.{Bool, true, false, ◌&&◌, ◌||◌, cond, and-true, and-false}
use lib.Dec.{eqb, leb}
use borrow.Author.Tests.{ne_eqb, le-leb, lt-leb}
use Rattle.std.specs.Prelude.{Result, Ok, Err}
use Rattle.base_answer.specs.declared.Answer.{Answer}
use Rattle.base_answer.specs.declared.Answer.TheVariants.{BadToken, TooLarge}
use Rattle.orchestra_tokens.specs.Measures.{opened, since, brackets_within, stretches_within}
use Rattle.orchestra_tokens.specs.inside.Passes.{measure, next, closed_of}
use Rattle.orchestra_tokens.specs.declared.Measure.{Measure}

pub next-is : (m : Measure) (k d r : ℕ) (f : Bool) → d ≡ opened m.depth k → r ≡ since m.run k → f ≡ (m.fits && (leb d 24 && leb r 128))
    → measure (m.count + 1) d r f ≡ next m k
unfolding next
next-is m k d r f p q s = rw (s, p, q)

module _ (m : Measure) (left : ℕ) where
  pub closed-late : (left ≡ 1 → ⊥) → Err BadToken ≡ closed_of m left
  closed-late a = rw (ne_eqb left 1 a)

  closed-by : (f l : Bool) → m.fits ≡ f → leb m.count 2048 ≡ l → left ≡ 1 → cond {A = Result ℕ Answer} (f && l) (Ok m.count) (Err TooLarge) ≡ closed_of m left
  unfolding brackets_within stretches_within
  closed-by f l p q e = rw (e, add-zero, p, q) (sym (rw (and-true l)))

  pub closed-taken : left ≡ 1 → m.fits ≡ true → m.count ≤ 2048 → Ok m.count ≡ closed_of m left
  closed-taken e p q = closed-by true true p (le-leb m.count 2048 q) e

  pub closed-many : left ≡ 1 → m.fits ≡ true → 2048 < m.count → Err TooLarge ≡ closed_of m left
  closed-many e p q = closed-by true false p (lt-leb m.count 2048 q) e

  pub closed-large : left ≡ 1 → m.fits ≡ false → Err TooLarge ≡ closed_of m left
  closed-large e p = closed-by false (leb m.count 2048) p refl e
