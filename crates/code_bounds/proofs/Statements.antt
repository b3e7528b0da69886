-- What the token measures leave of statements: expressions of at most 128 tokens, and ifs that nest less than 24 deep.
use Prim.Native.Nat.{ℕ, suc, ◌+◌, ◌≤◌, ◌<◌}
use native.Mathlib.Omega.{arith}
use mathlib.Core.Path.{refl}
use mathlib.Core.List.{List, ◌∷◌, ◌++◌, append_assoc}
use lib.ListN.{length, length-append}
use Rattle.orchestra_tokens.specs.declared.Token.{Token}
use Rattle.orchestra_tokens.specs.declared.Token.TheVariants.{Symbol, Sign}
use Rattle.orchestra_tokens.specs.Measures.{longest_stretch}
use Rattle.orchestra_syntax.specs.Tree.{Expr, Statements}
use Rattle.orchestra_syntax.specs.inside.Program.{code}
use Rattle.orchestra_syntax.specs.Grammar.{IsExpr, Stmts, none, set, out, when, either}
use Rattle.code_bounds.specs.Sizes.{Shallow, Small}
use Rattle.code_bounds.proofs.Exprs.{depth-tokens, compile-tokens}
use Rattle.code_bounds.proofs.Measures.{Kept, Plain, Inner, pass-plain, pass-round, pass-round-end, pass-block, pass-block-end, pass-semicolon, plain-symbol, plain-sign, within}

-- the measures go on, with n brackets open and some tokens since the last of ; { }
pub record Goes (n : ℕ) (r : List Token) : Type 0 where
  pub count : ℕ
  pub short : count ≤ longest_stretch
  pub kept : Kept n count r

-- an expression among tokens that keep the measures
module _ {e : Expr} {ts : List Token} (d : IsExpr e ts) (n k : ℕ) (r : List Token) (l : k ≤ longest_stretch) (h : Kept n k (ts ++ r)) where
  pub expr-past : Inner n (k + length ts) r
  expr-past = within d n k r l h

  pub expr-shallow : Shallow e
  expr-shallow = let i = expr-past in record { deep = omega (arith, depth-tokens d, i.short) }

-- ( expression ) and what follows
pub record Round (e : Expr) (n : ℕ) (r : List Token) : Type 0 where
  pub shallow : Shallow e
  pub count : ℕ
  pub kept : Kept n count r

round : {e : Expr} {ts : List Token} → IsExpr e ts → (n k s : ℕ) (r : List Token) → Plain (Sign s) → Kept n k (Sign s ∷ Sign 15 ∷ (ts ++ Sign 16 ∷ r)) → Round e n r
round {e} {ts} d n k s r l h =
    let a = pass-plain n k (Sign 15 ∷ (ts ++ Sign 16 ∷ r)) (Sign s) l h in
    let b = pass-round n (suc k) (ts ++ Sign 16 ∷ r) a.kept in
    let i = expr-past d (suc n) (suc (suc k)) (Sign 16 ∷ r) b.short b.kept in
    let c = pass-round-end n (suc (suc k) + length ts) r i.kept in
    record { shallow = expr-shallow d (suc n) (suc (suc k)) (Sign 16 ∷ r) b.short b.kept; count = _; kept = c.kept }

pub record Fits (g n : ℕ) (t : Statements) (r : List Token) : Type 0 where
  pub small : Small g t
  pub goes : Goes n r

-- statements inside g ifs of an instrument, so with more than g brackets open
pub statements-fit : {t : Statements} {ts : List Token} → Stmts t ts → (g n : ℕ) (r : List Token) → g < n → Goes n (ts ++ r) → Fits g n t r
unfolding Small
statements-fit none g n r l h = record { small = tt; goes = h }
statements-fit (set c {ts = ts} {us = us} d s) g n r l h =
    let f : Kept n h.count (Symbol c ∷ Sign 21 ∷ (ts ++ Sign 20 ∷ (us ++ r))) = rw append_assoc at h.kept in
    let a = pass-plain n h.count _ (Symbol c) (plain-symbol c) f in
    let b = pass-plain n (suc h.count) (ts ++ Sign 20 ∷ (us ++ r)) (Sign 21) (plain-sign 21 refl refl refl) a.kept in
    let i = expr-past d n _ (Sign 20 ∷ (us ++ r)) b.short b.kept in
    let e = expr-shallow d n _ (Sign 20 ∷ (us ++ r)) b.short b.kept in
    let p = pass-semicolon n _ (us ++ r) i.kept in
    let w = statements-fit s g n r l (record { count = 0; short = p.short; kept = p.kept }) in
    record { small = (e, w.small); goes = w.goes }
statements-fit (out {ts = ts} {us = us} d s) g n r l h =
    let f : Kept n h.count (Sign 6 ∷ Sign 15 ∷ (ts ++ Sign 16 ∷ Sign 20 ∷ (us ++ r))) = rw append_assoc at h.kept in
    let a = round d n h.count 6 (Sign 20 ∷ (us ++ r)) (plain-sign 6 refl refl refl) f in
    let p = pass-semicolon n a.count (us ++ r) a.kept in
    let w = statements-fit s g n r l (record { count = 0; short = p.short; kept = p.kept }) in
    record { small = (a.shallow, w.small); goes = w.goes }
statements-fit (when {ts = ts} {xs = xs} {us = us} d t s) g n r l h =
    let f : Kept n h.count (Sign 7 ∷ Sign 15 ∷ (ts ++ Sign 16 ∷ Sign 17 ∷ (xs ++ Sign 18 ∷ (us ++ r)))) = simp append_assoc at h.kept in
    let a = round d n h.count 7 (Sign 17 ∷ (xs ++ Sign 18 ∷ (us ++ r))) (plain-sign 7 refl refl refl) f in
    let o = pass-block n a.count (xs ++ Sign 18 ∷ (us ++ r)) a.kept in
    let x = statements-fit t (suc g) (suc n) (Sign 18 ∷ (us ++ r)) (omega arith) (record { count = 0; short = o.short; kept = o.kept }) in
    let p = pass-block-end n x.goes.count (us ++ r) x.goes.kept in
    let w = statements-fit s g n r l (record { count = 0; short = p.short; kept = p.kept }) in
    record { small = (a.shallow, (omega arith, (x.small, (tt, w.small)))); goes = w.goes }
statements-fit (either {ts = ts} {xs = xs} {ys = ys} {us = us} d t u s) g n r l h =
    let f : Kept n h.count (Sign 7 ∷ Sign 15 ∷ (ts ++ Sign 16 ∷ Sign 17 ∷ (xs ++ Sign 18 ∷ Sign 8 ∷ Sign 17 ∷ (ys ++ Sign 18 ∷ (us ++ r))))) = simp append_assoc at h.kept in
    let a = round d n h.count 7 (Sign 17 ∷ (xs ++ Sign 18 ∷ Sign 8 ∷ Sign 17 ∷ (ys ++ Sign 18 ∷ (us ++ r)))) (plain-sign 7 refl refl refl) f in
    let o = pass-block n a.count (xs ++ Sign 18 ∷ Sign 8 ∷ Sign 17 ∷ (ys ++ Sign 18 ∷ (us ++ r))) a.kept in
    let x = statements-fit t (suc g) (suc n) (Sign 18 ∷ Sign 8 ∷ Sign 17 ∷ (ys ++ Sign 18 ∷ (us ++ r))) (omega arith) (record { count = 0; short = o.short; kept = o.kept }) in
    let p = pass-block-end n x.goes.count (Sign 8 ∷ Sign 17 ∷ (ys ++ Sign 18 ∷ (us ++ r))) x.goes.kept in
    let q = pass-plain n 0 (Sign 17 ∷ (ys ++ Sign 18 ∷ (us ++ r))) (Sign 8) (plain-sign 8 refl refl refl) p.kept in
    let v = pass-block n 1 (ys ++ Sign 18 ∷ (us ++ r)) q.kept in
    let y = statements-fit u (suc g) (suc n) (Sign 18 ∷ (us ++ r)) (omega arith) (record { count = 0; short = v.short; kept = v.kept }) in
    let z = pass-block-end n y.goes.count (us ++ r) y.goes.kept in
    let w = statements-fit s g n r l (record { count = 0; short = z.short; kept = z.kept }) in
    record { small = (a.shallow, (omega arith, (x.small, (y.small, w.small)))); goes = w.goes }

-- statements have no more instructions than tokens
pub code-tokens : {t : Statements} {ts : List Token} → Stmts t ts → length (code t) ≤ length ts
unfolding code
code-tokens none = omega arith
code-tokens (set n d s) = simp length-append (omega (arith, compile-tokens d, code-tokens s))
code-tokens (out d s) = simp length-append (omega (arith, compile-tokens d, code-tokens s))
code-tokens (when d t s) = simp length-append (omega (arith, compile-tokens d, code-tokens t, code-tokens s))
code-tokens (either d t u s) = simp length-append (omega (arith, compile-tokens d, code-tokens t, code-tokens u, code-tokens s))
