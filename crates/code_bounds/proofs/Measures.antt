-- What the token measures leave: an expression has at most 128 tokens, and ifs nest less than 24 deep.
use Prim.Native.Nat.{ℕ, suc, ◌+◌, ◌≤◌}
use native.Mathlib.Omega.{arith}
use mathlib.Core.Path.{◌≡◌, refl, subst}
use mathlib.Core.List.{List, [], ◌∷◌, ◌++◌, append_assoc}
use mathlib.Core.Bool.{true, false, ◌||◌}
use lib.ListN.{length, length-append}
use lib.Dec.{eqb, leb}
use lib.Ieee.{Float}
use borrow.Author.Tests.{leb-true}
use Rattle.base_laws.proofs.Choice.{both_true}
use Rattle.orchestra_tokens.specs.declared.Token.{Token}
use Rattle.orchestra_signs.specs.Operators.{Unary, Binary, unary_sign, binary_sign}
use Rattle.orchestra_tokens.specs.declared.Token.TheVariants.{Number, Symbol, Whole, Sign}
use Rattle.orchestra_tokens.specs.Measures.{most_brackets, longest_stretch, kind_of, opened, brackets_within, since, stretches_within}
use Rattle.orchestra_syntax.specs.Tree.{Expr}
use Rattle.orchestra_syntax.specs.Grammar.{Derives, real, whole, named, prefixed, bracketed, called, called2, sides, chosen, sign, Binds, or, and, equal, unequal, less, greater, at_most, at_least, plus, minus, times, over, Prefix, negative, not, Call, abs, sgn, int, frac, Call2, min, max}

-- the measures of tokens that follow n open brackets, and k tokens since the last of ; { }
pub record Kept (n k : ℕ) (ts : List Token) : Type 0 where
  pub brackets : brackets_within n ts ≡ true
  pub stretches : stretches_within k ts ≡ true

-- one token further
pub record Past (n k : ℕ) (ts : List Token) : Type 0 where
  pub low : n ≤ most_brackets
  pub short : k ≤ longest_stretch
  pub kept : Kept n k ts

pub pass : (n k m j : ℕ) (t : Token) (ts : List Token) → opened n (kind_of t) ≡ m → since k (kind_of t) ≡ j → Kept n k (t ∷ ts) → Past m j ts
unfolding brackets_within stretches_within
pass n k m j t ts p q h =
    let (a, b) = both_true (leb (opened n (kind_of t)) most_brackets) (brackets_within (opened n (kind_of t)) ts) h.brackets in
    let (c, d) = both_true (leb (since k (kind_of t)) longest_stretch) (stretches_within (since k (kind_of t)) ts) h.stretches in
    let x = leb-true (opened n (kind_of t)) most_brackets a in
    let y = leb-true (since k (kind_of t)) longest_stretch c in
    record { low = omega arith; short = omega arith; kept = record { brackets = rw p at b; stretches = rw q at d } }

-- ---- tokens of an expression

-- a token that is none of ( ) ; { }
pub record Plain (t : Token) : Type 0 where
  pub opens : (n : ℕ) → opened n (kind_of t) ≡ n
  pub goes : (k : ℕ) → since k (kind_of t) ≡ suc k

module _ (n k : ℕ) (ts : List Token) where
  pub pass-plain : (t : Token) → Plain t → Kept n k (t ∷ ts) → Past n (suc k) ts
  pass-plain t p h = pass n k n (suc k) t ts (p.opens n) (p.goes k) h

  pub pass-round : Kept n k (Sign 15 ∷ ts) → Past (suc n) (suc k) ts
  unfolding opened since
  pass-round h = pass n k (suc n) (suc k) (Sign 15) ts refl refl h

  pub pass-round-end : Kept (suc n) k (Sign 16 ∷ ts) → Past n (suc k) ts
  unfolding opened since
  pass-round-end h = pass (suc n) k n (suc k) (Sign 16) ts (omega arith) refl h

  pub pass-block : Kept n k (Sign 17 ∷ ts) → Past (suc n) 0 ts
  unfolding opened since
  pass-block h = pass n k (suc n) 0 (Sign 17) ts refl refl h

  pub pass-block-end : Kept (suc n) k (Sign 18 ∷ ts) → Past n 0 ts
  unfolding opened since
  pass-block-end h = pass (suc n) k n 0 (Sign 18) ts (omega arith) refl h

  pub pass-semicolon : Kept n k (Sign 20 ∷ ts) → Past n 0 ts
  unfolding opened since
  pass-semicolon h = pass n k n 0 (Sign 20) ts refl refl h

pub plain-number : (x : Float) → Plain (Number x)
unfolding opened since
plain-number x = record { opens = λ n. refl; goes = λ k. refl }

pub plain-whole : (w : ℕ) → Plain (Whole w)
unfolding opened since
plain-whole w = record { opens = λ n. refl; goes = λ k. refl }

pub plain-symbol : (s : ℕ) → Plain (Symbol s)
unfolding opened since
plain-symbol s = record { opens = λ n. refl; goes = λ k. refl }

pub plain-sign : (s : ℕ) → (eqb s 15 || eqb s 17) ≡ false → (eqb s 16 || eqb s 18) ≡ false → (eqb s 20 || (eqb s 17 || eqb s 18)) ≡ false → Plain (Sign s)
unfolding opened since
plain-sign s a b c = record { opens = λ n. rw (a, b); goes = λ k. rw c }

plain-prefix : {o : Unary} → Prefix o → Plain (sign (unary_sign o))
plain-prefix negative = plain-sign 33 refl refl refl
plain-prefix not = plain-sign 36 refl refl refl

plain-call : {o : Unary} → Call o → Plain (sign (unary_sign o))
plain-call abs = plain-sign 9 refl refl refl
plain-call sgn = plain-sign 10 refl refl refl
plain-call int = plain-sign 11 refl refl refl
plain-call frac = plain-sign 12 refl refl refl

plain-call2 : {o : Binary} → Call2 o → Plain (sign (binary_sign o))
plain-call2 min = plain-sign 13 refl refl refl
plain-call2 max = plain-sign 14 refl refl refl

plain-operator : {o : Binary} {l : ℕ} → Binds o l → Plain (sign (binary_sign o))
plain-operator or = plain-sign 24 refl refl refl
plain-operator and = plain-sign 25 refl refl refl
plain-operator equal = plain-sign 26 refl refl refl
plain-operator unequal = plain-sign 27 refl refl refl
plain-operator less = plain-sign 28 refl refl refl
plain-operator greater = plain-sign 29 refl refl refl
plain-operator at_most = plain-sign 30 refl refl refl
plain-operator at_least = plain-sign 31 refl refl refl
plain-operator plus = plain-sign 32 refl refl refl
plain-operator minus = plain-sign 33 refl refl refl
plain-operator times = plain-sign 34 refl refl refl
plain-operator over = plain-sign 35 refl refl refl

-- tokens with none of ; { } among them, that close the brackets they open
pub record Inner (n k : ℕ) (r : List Token) : Type 0 where
  pub short : k ≤ longest_stretch
  pub kept : Kept n k r

abbrev pub Within : List Token → Type 0
Within ts = (n k : ℕ) (r : List Token) → k ≤ longest_stretch → Kept n k (ts ++ r) → Inner n (k + length ts) r

pub within-nil : Within []
within-nil n k r l h = let e : k ≡ k + 0 = omega arith in record { short = omega arith; kept = rw e at h }

pub within-one : (t : Token) → Plain t → Within (t ∷ [])
within-one t p n k r l h =
    let q = pass-plain n k r t p h in
    let e : suc k ≡ k + 1 = omega arith in
    record { short = omega arith; kept = rw e at q.kept }

pub within-append : (ts us : List Token) → Within ts → Within us → Within (ts ++ us)
within-append ts us A B n k r l h =
    let a = A n k (us ++ r) l (rw append_assoc at h) in
    let b = B n (k + length ts) r a.short a.kept in
    let e : k + length ts + length us ≡ k + length (ts ++ us) = omega (arith, length-append ts us) in
    record { short = omega arith; kept = rw e at b.kept }

within-bracket : (ts : List Token) → Within ts → Within (Sign 15 ∷ (ts ++ Sign 16 ∷ []))
within-bracket ts A n k r l h =
    let f : Kept n k (Sign 15 ∷ (ts ++ Sign 16 ∷ r)) = rw append_assoc at h in
    let o = pass-round n k (ts ++ Sign 16 ∷ r) f in
    let a = A (suc n) (suc k) (Sign 16 ∷ r) o.short o.kept in
    let c = pass-round-end n (suc k + length ts) r a.kept in
    let e : suc (suc k + length ts) ≡ k + suc (length (ts ++ Sign 16 ∷ [])) = omega (arith, length-append ts (Sign 16 ∷ [])) in
    record { short = omega arith; kept = rw e at c.kept }

pub within-cons : (t : Token) (ts : List Token) → Plain t → Within ts → Within (t ∷ ts)
within-cons t ts p A = within-append (t ∷ []) ts (within-one t p) A

pub within : {m : ℕ} {e : Expr} {ts : List Token} → Derives m e ts → Within ts
within (real x) = within-one (Number x) (plain-number x)
within (whole w) = within-one (Whole w) (plain-whole w)
within (named n) = within-one (Symbol n) (plain-symbol n)
within (prefixed {o = o} {ts = ts} p d) = within-cons (sign (unary_sign o)) ts (plain-prefix p) (within d)
within (bracketed {ts = ts} d) = within-bracket ts (within d)
within (called {o = o} {ts = ts} p d) = within-cons (sign (unary_sign o)) (Sign 15 ∷ (ts ++ Sign 16 ∷ [])) (plain-call p) (within-bracket ts (within d))
within (called2 {o = o} {ts = ts} {us = us} p d f) =
    within-cons (sign (binary_sign o)) (Sign 15 ∷ (ts ++ Sign 19 ∷ (us ++ Sign 16 ∷ []))) (plain-call2 p)
    (subst (λ (l : List Token). Within (Sign 15 ∷ l)) (append_assoc ts (Sign 19 ∷ us) (Sign 16 ∷ []))
    (within-bracket (ts ++ Sign 19 ∷ us)
    (within-append ts (Sign 19 ∷ us) (within d) (within-cons (Sign 19) us (plain-sign 19 refl refl refl) (within f)))))
within (sides {o = o} {ts = ts} {us = us} p l d f) = within-append ts (sign (binary_sign o) ∷ us) (within d) (within-cons (sign (binary_sign o)) us (plain-operator p) (within f))
within (chosen {ts = ts} {us = us} {vs = vs} c d f) =
    within-append ts (Sign 22 ∷ (us ++ Sign 23 ∷ vs)) (within c)
    (within-cons (Sign 22) (us ++ Sign 23 ∷ vs) (plain-sign 22 refl refl refl)
    (within-append us (Sign 23 ∷ vs) (within d) (within-cons (Sign 23) vs (plain-sign 23 refl refl refl) (within f))))
