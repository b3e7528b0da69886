-- What the reader reads is an expression of the grammar, and its code.
use Rattle.std.proofs.Common.{◌≡◌, ℕ, zero, suc, ◌≤◌, leb, List, [], ◌∷◌, ◌++◌, length, refl, append_assoc, append-nil, arith, leb-false, leb-true}
use Rattle.orchestra_tokens.specs.declared.Token.{Token}
use Rattle.orchestra_tokens.specs.declared.Token.TheVariants.{Sign}
use Rattle.orchestra_syntax.specs.Tree.{Expr, unary, binary, choose}
use Rattle.orchestra_signs.specs.Signs as signs
use Rattle.orchestra_syntax.specs.inside.Program.{Ins, ins, choose_op, compile, unary_op, binary_op}
use Rattle.orchestra_expressions.specs.declared.PrefixToken.{PrefixToken}
use Rattle.orchestra_expressions.specs.declared.InfixToken.{InfixToken}
use Rattle.orchestra_expressions.specs.declared.InfixToken.TheVariants.{Binary, Question, Stop}
use Rattle.orchestra_expressions.specs.Roles.{infix_of, infix_l}
use Rattle.orchestra_expressions.specs.Reader.{sign, emit, Sys, lastly, by_prefix, right, parts, by_infix, step, deep, reader}
use Rattle.orchestra_syntax.specs.Grammar.{Derives, prefixed, bracketed, called, called2, sides, chosen}
use Rattle.orchestra_expressions.proofs.Results.{All, none, some, All-weaken, All-cond, All-sign, All-read, Reads, reads, signed}
use Rattle.orchestra_expressions.proofs.Tables as Tables
use Rattle.orchestra_expressions.proofs.Tables.{Heads, heads, Tails, tails, levels, Ends}

-- an expression of level m, in front of what ends it
abbrev pub Parsed : ℕ → List Token → List Ins → List Token → Type 0
Parsed m = Reads (λ e p r. Derives m e p × Ends m (infix_l r)) compile

-- a may stand left of what comes next
abbrev pub Fit : InfixToken → Expr → List Token → Type 0
Fit (Binary o l) a p = Derives l a p
Fit Question a p = Derives 1 a p
Fit Stop a p = Unit {0}

-- what goes on makes one expression with the operand a, of the tokens p
pub record Sound (S : Sys) : Type 0 where
  pub expr : (m : ℕ) (ts : List Token) → All (Parsed m ts) (S.expr m ts)
  pub more : (m : ℕ) (ts : List Token) (a : Expr) (p : List Token) → Derives m a p → Fit (infix_l ts) a p
      → All (λ d q. Parsed m (p ++ ts) (compile a ++ d) q) (S.more m ts)

pub fit-any : (h : InfixToken) {a : Expr} {p : List Token} → ((m : ℕ) → Derives m a p) → Fit h a p
fit-any (Binary o l) f = f l
fit-any Question f = f 1
fit-any Stop f = tt

-- what an operator of level l made may stand left of what ends its right side
fit-below : (h : InfixToken) (l : ℕ) {a : Expr} {p : List Token} → 1 ≤ l → Ends (suc l) h → ((m : ℕ) → m ≤ l → Derives m a p) → Fit h a p
fit-below (Binary o j) l x e f = f j (omega arith)
fit-below Question l x e f = f 1 x
fit-below Stop l x e f = tt

-- nothing goes on after a whole expression
fit_none : (h : InfixToken) (a : Expr) (p : List Token) → Ends 0 h → Fit h a p
fit_none (Binary o j) a p e = absurd (omega arith)
fit_none Question a p e = absurd (omega arith)
fit_none Stop a p e = tt

stopped : {m : ℕ} {a : Expr} {p ts : List Token} → Derives m a p → Ends m (infix_l ts) → Parsed m (p ++ ts) (compile a ++ []) ts
stopped {a = a} {p = p} d e = reads a p (d, e) refl (append-nil (compile a))

module _ (S : Sys) (X : Sound S) where
  pub right-sound : (o k : ℕ) (ts : List Token) → All (Reads (λ e p r. Derives k e p × Ends k (infix_l r)) (λ e. compile e ++ ins o ∷ []) ts) (right S o k ts)
  right-sound o k ts = All-read (emit (ins o)) (X.expr k ts) (λ e p r d h. some (reads e p d h refl))

  -- the two last parts of a ? : and what they make with a guard
  pub parts-sound : (ts : List Token)
      → All (Reads {A = Expr × Expr} (λ x p r. ((t : Expr) (q : List Token) → Derives 1 t q → Derives 0 (choose t x.0 x.1) (q ++ Sign 22 ∷ p)) × Ends 0 (infix_l r))
      (λ x. compile x.0 ++ (compile x.1 ++ ins choose_op ∷ [])) ts) (parts S ts)
  parts-sound ts =
      All-read _ (X.expr 0 ts) (λ a p q d h.
      All-sign 23 q _ (λ r e.
      All-read (emit (ins choose_op)) (X.expr 0 r) (λ b u v g i.
      some (reads (a, b) (p ++ Sign 23 ∷ u) ((λ t w f. chosen f d.0 g.0), g.1) (rw (h, e, i) (simp append_assoc)) refl))))

  by_tail-sound : {h : InfixToken} (t : Token) (ts : List Token) → Tails t h → infix_of t ≡ h → (m : ℕ) (a : Expr) (p : List Token) → Derives m a p → Fit h a p
      → All (λ d q. Parsed m (p ++ t ∷ ts) (compile a ++ d) q) (by_infix S h m (t ∷ ts))
  unfolding compile
  by_tail-sound t ts (Tables.binary {o = o} {l = l} e w) i m a p d f =
      All-cond (leb m l) _ _ (λ v.
      All-read (S.more m) (right-sound (binary_op o) (suc l) ts) (λ b u r g h.
      let made : (j : ℕ) → j ≤ l → Derives j (binary o a b) (p ++ Sign (binary_op o) ∷ u) = λ j le. sides w le f g.0 in
      let x = X.more m r (binary o a b) (p ++ Sign (binary_op o) ∷ u) (made m (leb-true m l v)) (fit-below (infix_l r) l (levels w).0 g.1 made) in
      rw (e, h) (simp append_assoc (simp append_assoc at x))))
      (λ v. some (stopped d (rw i (leb-false m l v))))
  by_tail-sound t ts (Tables.question e) i m a p d f =
      All-cond (leb m 0) _ _ (λ v.
      All-read (S.more m) (parts-sound ts) (λ b u r g h.
      let z : m ≡ 0 = omega (arith, leb-true m 0 v) in
      let x = X.more m r (choose a b.0 b.1) (p ++ Sign 22 ∷ u) (rw z (g.0 a p f)) (fit_none (infix_l r) _ _ g.1) in
      rw (e, h) (simp append_assoc (simp append_assoc at x))))
      (λ v. some (stopped d (rw i (leb-false m 0 v))))
  by_tail-sound t ts Tables.stop i m a p d f = some (stopped d (rw i tt))

  -- a sign, the last argument of a call, a bracket, and the call's operation
  All-lastly : {Q : List Ins → List Token → Type 0} (s o : ℕ) (ts : List Token)
      → ((e : Expr) (p r : List Token) → Derives 0 e p → ts ≡ Sign s ∷ (p ++ Sign 16 ∷ r) → Q (compile e ++ ins o ∷ []) r) → All Q (lastly S s o ts)
  All-lastly s o ts f =
      All-sign s ts _ (λ p e. All-read _ (X.expr 0 p) (λ a u r d h. All-sign 16 r _ (λ q g. some (f a u q d.0 (rw (e, h, g))))))

  -- an operand
  pub by_head-sound : {h : PrefixToken} (t : Token) (ts : List Token) → Heads t h → All (Reads (λ e p r. (m : ℕ) → Derives m e p) compile (t ∷ ts)) (by_prefix S h ts)
  unfolding compile
  by_head-sound t ts (Tables.push a) = some (reads a.tree (t ∷ []) a.derives refl a.code)
  by_head-sound t ts (Tables.unary {o = o} e w) =
      All-read (emit (ins (unary_op o))) (X.expr 7 ts) (λ b p r d h. some (reads (unary o b) _ (λ m. prefixed w d.0) (rw (e, h)) refl))
  by_head-sound t ts (Tables.opens e) =
      All-read (sign 16) (X.expr 0 ts) (λ b p r d h.
      All-weaken (signed 16 r) (λ c q g. reads b _ (λ m. bracketed d.0) (rw (e, h, g.1) (simp append_assoc)) (rw g.0 (append-nil (compile b)))))
  by_head-sound t ts (Tables.call {o = o} e w) =
      All-lastly 15 (unary_op o) ts (λ b p r d h. reads (unary o b) _ (λ m. called w d) (rw (e, h) (simp append_assoc)) refl)
  by_head-sound t ts (Tables.call2 {o = o} e w) =
      All-sign 15 ts _ (λ p f.
      All-read _ (X.expr 0 p) (λ a u r d h.
      All-lastly 19 (binary_op o) r (λ b v q g i. reads (binary o a b) _ (λ m. called2 w d.0 g) (rw (e, f, h, i) (simp append_assoc)) (simp append_assoc))))
  by_head-sound t ts Tables.bad = none

  sound-step : Sound (step S)
  sound-step = record { expr = ex; more = mo }
    where
      ex : (m : ℕ) (ts : List Token) → All (Parsed m ts) ((step S).expr m ts)
      ex m [] = none
      ex m (t ∷ ts) = All-read (S.more m) (by_head-sound t ts (heads t)) (λ b p r d h. rw h (X.more m r b p (d m) (fit-any (infix_l r) d)))

      mo : (m : ℕ) (ts : List Token) (a : Expr) (p : List Token) → Derives m a p → Fit (infix_l ts) a p
          → All (λ d q. Parsed m (p ++ ts) (compile a ++ d) q) ((step S).more m ts)
      mo m [] a p d f = some (stopped d tt)
      mo m (t ∷ ts) a p d f = by_tail-sound t ts (tails t) refl m a p d f

pub deep-sound : (n : ℕ) → Sound (deep n)
unfolding deep
deep-sound zero = record { expr = λ m ts. none; more = λ m ts a p d f. none }
deep-sound (suc n) = sound-step (deep n) (deep-sound n)

-- what the reader reads is an expression, and its code
pub sound : (m : ℕ) (ts : List Token) → All (Parsed m ts) (reader.expr m ts)
unfolding reader
sound m ts = (deep-sound (suc (length ts))).expr m ts
