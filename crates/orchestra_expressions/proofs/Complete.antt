-- Every expression of the grammar is read, as its code.
use Rattle.std.proofs.Common.{◌≡◌, ℕ, zero, suc, ◌≤◌, true, eqb, List, [], ◌∷◌, ◌++◌, drop, sym, refl, ap, ◌∙◌, append_assoc, append-nil, arith, le-leb}
use borrow.Author.Tests.{lt-leb}
use Rattle.orchestra_tokens.specs.declared.Token.{Token}
use Rattle.orchestra_tokens.specs.declared.Token.TheVariants.{Sign}
use Rattle.orchestra_syntax.specs.Tree.{Expr, binary, choose}
use Rattle.orchestra_signs.specs.Operators as O
use Rattle.orchestra_syntax.specs.inside.Program.{Ins, ins, choose_op, compile, unary_op, binary_op}
use Rattle.orchestra_expressions.specs.declared.InfixToken.{InfixToken}
use Rattle.orchestra_expressions.specs.declared.InfixToken.TheVariants.{Binary, Question, Stop}
use Rattle.orchestra_expressions.specs.Roles.{prefix_l, infix_of, infix_l, infix_sign}
use Rattle.orchestra_expressions.specs.Reader.{Res, no, ok, prepend, lastly, by_prefix, by_infix, reader}
use Rattle.orchestra_syntax.specs.Grammar.{Derives, real, whole, named, prefixed, bracketed, called, called2, sides, chosen, Binds}
use Rattle.orchestra_expressions.proofs.ReaderSteps.{expr·law, more·law}
use Rattle.orchestra_expressions.proofs.Tables as Tables
use Rattle.orchestra_expressions.proofs.Tables.{Tails, tails, Ends, levels, tail-operator, head-prefix, head-call, head-call2}

pub ends_more : {m n : ℕ} (t : InfixToken) → m ≤ n → Ends m t → Ends n t
ends_more (Binary o l) h e = omega arith
ends_more Question h e = omega arith
ends_more Stop h e = tt

-- no operator goes on with an operand
ends-tight : {n : ℕ} (ts : List Token) → 7 ≤ n → Ends n (infix_l ts)
ends-tight [] le = tt
ends-tight {n} (t ∷ ts) le = go (infix_of t) (tails t)
  where
    go : (h : InfixToken) → Tails t h → Ends n h
    go (Binary o l) (Tables.binary e p) = let x = levels p in omega arith
    go Question q = omega arith
    go Stop q = tt

more-ends : (m : ℕ) (r : List Token) → Ends m (infix_l r) → reader.more m r ≡ ok [] r
more-ends m r h = more·law m r ∙ go (infix_l r) h
  where
    go : (t : InfixToken) → Ends m t → by_infix reader t m r ≡ ok [] r
    go (Binary o l) h = rw (lt-leb m l h)
    go Question h = rw (lt-leb m 0 h)
    go Stop h = refl

-- one more for a level that has operators with a left side of their own level
abbrev guard : ℕ → ℕ
guard zero = zero
guard (suc m) = suc (suc m)

guard-pos : (l : ℕ) → 1 ≤ l → guard l ≡ suc l
guard-pos zero h = absurd (omega arith)
guard-pos (suc l) h = refl

guard-le : (m : ℕ) → guard m ≤ suc m
guard-le zero = omega arith
guard-le (suc m) = omega arith

pub prepend-prepend : (c d : List Ins) (x : Res) → prepend c (prepend d x) ≡ prepend (c ++ d) x
prepend-prepend c d no = refl
prepend-prepend c d (ok f r) = ap (λ z. ok z r) (sym (append_assoc c d f))

-- what is read of an expression of level m, with r after it
record Reads (m : ℕ) (e : Expr) (ts : List Token) : Type 0 where
  read : (j : ℕ) (r : List Token) → j ≤ m → Ends (guard m) (infix_l r) → reader.expr j (ts ++ r) ≡ prepend (compile e) (reader.more j r)

-- what starts as an operand is read so at every level
operand : {m : ℕ} {e : Expr} {ts : List Token} → ((r : List Token) → by_prefix reader (prefix_l (ts ++ r)) (drop 1 (ts ++ r)) ≡ ok (compile e) r) → Reads m e ts
operand {ts = ts} f = record { read = λ j r le h. expr·law j (ts ++ r) ∙ rw (f r) }

-- a whole expression, in front of a token that ends it
whole-reads : {m : ℕ} {e : Expr} {ts : List Token} → Reads m e ts → (r : List Token) → Ends m (infix_l r) → Ends (guard m) (infix_l r)
    → reader.expr m (ts ++ r) ≡ ok (compile e) r
whole-reads {m} {e} R r h g = R.read m r (omega arith) g ∙ rw (more-ends m r h, append-nil (compile e))

module _ {e : Expr} {ts : List Token} (R : Reads 0 e ts) where
  -- in front of a sign that goes on with nothing
  sign_reads : (s : ℕ) (r : List Token) → infix_sign s ≡ Stop → reader.expr 0 (ts ++ Sign s ∷ r) ≡ ok (compile e) (Sign s ∷ r)
  sign_reads s r q = whole-reads R (Sign s ∷ r) (rw q tt) (rw q tt)

  last-reads : (s o : ℕ) → eqb s s ≡ true → (r : List Token) → lastly reader s o (Sign s ∷ ((ts ++ Sign 16 ∷ []) ++ r)) ≡ ok (compile e ++ ins o ∷ []) r
  last-reads s o q r = rw (q, append_assoc ts (Sign 16 ∷ []) r, sign_reads 16 r refl)

-- a left side, and what is read on from it
after-left : {m j : ℕ} (a : Expr) (ts us : List Token) (c : List Ins) (r : List Token) → Reads m a ts → j ≤ m → Ends (guard m) (infix_l us)
    → reader.more j us ≡ prepend c (reader.more j r) → reader.expr j (ts ++ us) ≡ prepend (compile a ++ c) (reader.more j r)
after-left {j = j} a ts us c r A le h u = A.read j us le h ∙ ap (prepend (compile a)) u ∙ prepend-prepend (compile a) c (reader.more j r)

sides-reads : {m l : ℕ} {o : O.Binary} (a b : Expr) (ts us : List Token) → Reads l a ts → Reads (suc l) b us → Binds o l → m ≤ l
    → Reads m (binary o a b) (ts ++ Sign (binary_op o) ∷ us)
unfolding compile
sides-reads {m} {l} {o} a b ts us A B p f = record {
  read = λ j r le h.
      let n = levels p in
      let w = whole-reads B r (ends_more (infix_l r) (omega (arith, guard-le m)) h) (ends_more (infix_l r) (omega (arith, guard-le m)) h) in
      rw (append_assoc ts (Sign (binary_op o) ∷ us) r, append_assoc (compile a) (compile b) (ins (binary_op o) ∷ []))
      (after-left a ts (Sign (binary_op o) ∷ (us ++ r)) (compile b ++ ins (binary_op o) ∷ []) r A (omega arith) (rw (guard-pos l n.0, tail-operator p) (omega arith))
      (more·law j (Sign (binary_op o) ∷ (us ++ r)) ∙ rw (tail-operator p, le-leb j l (omega arith), w)));
}

chosen-reads : (d a b : Expr) (ts us vs : List Token) → Reads 1 d ts → Reads 0 a us → Reads 0 b vs → (r : List Token) → Ends 0 (infix_l r)
    → reader.expr 0 ((ts ++ Sign 22 ∷ (us ++ Sign 23 ∷ vs)) ++ r) ≡ prepend (compile (choose d a b)) (reader.more 0 r)
unfolding compile
chosen-reads d a b ts us vs D A B r h =
    let x = us ++ Sign 23 ∷ vs in
    let c = compile a ++ (compile b ++ ins choose_op ∷ []) in
    rw (append_assoc ts (Sign 22 ∷ x) r)
    (after-left d ts (Sign 22 ∷ (x ++ r)) c r D (omega arith) (omega arith)
    (more·law 0 (Sign 22 ∷ (x ++ r)) ∙ rw (append_assoc us (Sign 23 ∷ vs) r, sign_reads A 23 (vs ++ r) refl, whole-reads B r h h))
    ∙ ap (λ z. prepend z (reader.more 0 r)) (simp append_assoc))

reads : {m : ℕ} {e : Expr} {ts : List Token} → Derives m e ts → Reads m e ts
unfolding compile
reads (real x) = operand (λ r. refl)
reads (whole w) = operand (λ r. refl)
reads (named n) = operand (λ r. refl)
reads (prefixed p d) = let R = reads d in operand (λ r. rw (head-prefix p, whole-reads R r (ends-tight r (omega arith)) (ends-tight r (omega arith))))
reads (bracketed {e = e} {ts = ts} d) = let R = reads d in operand (λ r. rw (append_assoc ts (Sign 16 ∷ []) r, sign_reads R 16 r refl, append-nil (compile e)))
reads (called {o = o} p d) = let R = reads d in operand (λ r. rw (head-call p) (last-reads R 15 (unary_op o) refl r))
reads (called2 {o = o} {a = a} {b = b} {ts = ts} {us = us} p d f) =
    let A = reads d in
    let B = reads f in
    operand (λ r. rw (
      head-call2 p,
      append_assoc ts (Sign 19 ∷ (us ++ Sign 16 ∷ [])) r,
      sign_reads A 19 ((us ++ Sign 16 ∷ []) ++ r) refl,
      last-reads B 19 (binary_op o) refl r,
      append_assoc (compile a) (compile b) (ins (binary_op o) ∷ []),
    ))
reads (sides {a = a} {b = b} {ts = ts} {us = us} p le d f) = sides-reads a b ts us (reads d) (reads f) p le
reads (chosen {c = c} {a = a} {b = b} {ts = ts} {us = us} {vs = vs} d f g) =
    let D = reads d in
    let A = reads f in
    let B = reads g in
    record { read = λ j r le h. let z : j ≡ 0 = omega arith in rw z (chosen-reads c a b ts us vs D A B r h) }

-- every expression is read, in front of a token that ends it, as its code
pub complete : {e : Expr} {ts : List Token} → Derives 0 e ts → (r : List Token) → Ends 0 (infix_l r) → reader.expr 0 (ts ++ r) ≡ ok (compile e) r
complete d r h = whole-reads (reads d) r h h
