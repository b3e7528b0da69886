-- Laws of the reader: it gives no more code than it takes tokens, and it is its own next step, however deep it is followed.
use Rattle.std.proofs.Common.{◌≡◌, ℕ, zero, suc, ◌+◌, ◌-◌, ◌<◌, ◌≤◌, Bool, cond, leb, List, [], ◌∷◌, ◌++◌, length, drop, sym, refl, ap, ◌∙◌, suc-add, arith, length-append}
use Rattle.orchestra_tokens.specs.declared.Token.{Token}
use Rattle.orchestra_tokens.specs.declared.Token.TheVariants.{Number}
use Rattle.orchestra_syntax.specs.Tree.{Expr, number}
use Rattle.orchestra_syntax.specs.inside.Program.{Ins, zero_f, ins, compile}
use Rattle.orchestra_syntax.specs.Grammar.{Derives, real, whole, named, prefixed, bracketed, called, called2, sides, chosen}
use Rattle.orchestra_expressions.specs.declared.PrefixToken.{PrefixToken}
use Rattle.orchestra_expressions.specs.declared.PrefixToken.TheVariants.{Push, Unary, Open, Call, Call2, Bad}
use Rattle.orchestra_expressions.specs.declared.InfixToken.{InfixToken}
use Rattle.orchestra_expressions.specs.declared.InfixToken.TheVariants.{Binary, Question, Stop}
use Rattle.orchestra_expressions.specs.Roles.{prefix_of, infix_of, prefix_l, infix_l}
use Rattle.orchestra_expressions.specs.Reader.{Res, prepend, seq, emit, Sys, lastly, by_prefix, parts, by_infix, step, deep, reader}
use Rattle.orchestra_expressions.proofs.Tables.{heads}
use Rattle.orchestra_expressions.proofs.Sound.{Sound, fit-any, right-sound, parts-sound, by_head-sound, deep-sound}
pub use Rattle.orchestra_expressions.proofs.Results.{by_arm, All, none, some, All-weaken, All-seq, All-cond, All-if, Signed, signed, All-sign, Reads, reads, All-read}

-- ---- no more code than tokens

abbrev pub Read : List Token → List Ins → List Token → Type 0
Read ts c r = (length c + length r ≤ length ts) × (length r < length ts)

pub record Bounded (S : Sys) : Type 0 where
  pub expr : (m : ℕ) (ts : List Token) → All (Read ts) (S.expr m ts)
  pub more : (m : ℕ) (ts : List Token) → All (λ c r. length c + length r ≤ length ts) (S.more m ts)

-- an expression has a token or more for each instruction of its code, and an instruction
sized : {m : ℕ} {e : Expr} {ts : List Token} → Derives m e ts → (1 ≤ length (compile e)) × (length (compile e) ≤ length ts)
unfolding compile
sized (real x) = (omega arith, omega arith)
sized (whole w) = (omega arith, omega arith)
sized (named n) = (omega arith, omega arith)
sized (prefixed p d) = let h = sized d in simp length-append (omega arith)
sized (bracketed d) = let h = sized d in simp length-append (omega arith)
sized (called p d) = let h = sized d in simp length-append (omega arith)
sized (called2 p d f) = let h = sized d in let g = sized f in simp length-append (omega arith)
sized (sides p le d f) = let h = sized d in let g = sized f in simp length-append (omega arith)
sized (chosen d f k) = let h = sized d in let g = sized f in let i = sized k in simp length-append (omega arith)

took-tree : {m : ℕ} {e : Expr} {ts p : List Token} {c : List Ins} (r : List Token) → Derives m e p → ts ≡ p ++ r → c ≡ compile e → Read ts c r
took-tree r d f g = let h = sized d in rw (f, g) (simp length-append (omega arith))

bounded : (S : Sys) → Sound S → Bounded S
unfolding compile
bounded S X = record {
  expr = λ m ts. All-weaken (X.expr m ts) (λ c r p. took-tree r p.derives.0 p.eq p.code);
  -- behind a number
  more = λ m ts.
      All-weaken (X.more m ts (number zero_f) (Number zero_f ∷ []) (real zero_f) (fit-any (infix_l ts) (λ j. real zero_f)))
      (λ c r p. let h = took-tree r p.derives.0 p.eq p.code in omega (arith, h.0));
}

module _ (S : Sys) (B : Bounded S) where
  -- two tokens more are taken than the last argument's code is long, and one instruction is given
  pub lastly-took : (s o : ℕ) (ts : List Token) → All (λ c r. (length c + length r < length ts) × (length r < length ts)) (lastly S s o ts)
  lastly-took s o ts =
      All-sign s ts _ (λ p e.
      All-seq _ (B.expr 0 p) (λ c r h.
      All-sign 16 r _ (λ q f.
      let x = ap length e in
      let y = ap length f in
      some (simp length-append (omega (arith, h.0, h.1)), omega (arith, h.1)))))

pub reader-bounded : Bounded reader
unfolding reader
reader-bounded = record {
  expr = λ m ts. (bounded _ (deep-sound (suc (length ts)))).expr m ts;
  more = λ m ts. (bounded _ (deep-sound (suc (length ts)))).more m ts;
}

-- ---- two readers that agree on few tokens agree, a call deeper, on one more

seq-go : {P : List Ins → List Token → Type 0} (k l : List Token → Res) {z : Res} → All P z
    → ((c : List Ins) (r : List Token) → P c r → k r ≡ l r) → seq z k ≡ seq z l
seq-go k l none f = refl
seq-go k l (some {c = c} h) f = ap (prepend c) (f _ _ h)

pub seq-same : {P : List Ins → List Token → Type 0} {x y : Res} (k l : List Token → Res)
    → All P x → x ≡ y → ((c : List Ins) (r : List Token) → P c r → k r ≡ l r) → seq x k ≡ seq y l
seq-same k l a e f = seq-go k l a f ∙ ap (λ z. seq z l) e

cond_same : (b : Bool) (x y z : Res) → x ≡ y → cond b x z ≡ cond b y z
cond_same b x y z e = ap (λ w. cond b w z) e

record Agree (b : ℕ) (S R : Sys) : Type 0 where
  expr : (m : ℕ) (ts : List Token) → length ts < b → S.expr m ts ≡ R.expr m ts
  more : (m : ℕ) (ts : List Token) → length ts < b → S.more m ts ≡ R.more m ts

-- what is left of some tokens is no longer
rest-short : (p r ts : List Token) → ts ≡ p ++ r → length r ≤ length ts
rest-short p r ts e = rw e (simp length-append (omega arith))

module _ (S R : Sys) (b : ℕ) (X : Sound S) (A : Agree b S R) where
  B : Bounded S
  B = bounded S X

  lastly-same : (s o : ℕ) (ts : List Token) → length ts < b → lastly S s o ts ≡ lastly R s o ts
  lastly-same s o ts lt =
      seq-same _ _ (signed s ts) refl (λ c p h.
      let x = ap length h.1 in
      seq-same _ _ (B.expr 0 p) (A.expr 0 p (omega arith)) (λ d q g. refl))

  by_head-same : (h : PrefixToken) (ts : List Token) → length ts < b → by_prefix S h ts ≡ by_prefix R h ts
  by_head-same (Push o a x) ts lt = refl
  by_head-same (Unary o) ts lt = seq-same _ _ (B.expr 7 ts) (A.expr 7 ts lt) (λ c r h. refl)
  by_head-same Open ts lt = seq-same _ _ (B.expr 0 ts) (A.expr 0 ts lt) (λ c r h. refl)
  by_head-same (Call o) ts lt = lastly-same 15 o ts lt
  by_head-same (Call2 o) ts lt =
      seq-same _ _ (signed 15 ts) refl (λ c p h.
      let x = ap length h.1 in
      seq-same _ _ (B.expr 0 p) (A.expr 0 p (omega arith)) (λ d q g. lastly-same 19 o q (omega (arith, g.1))))
  by_head-same Bad ts lt = refl

  parts_same : (ts : List Token) → length ts < b → parts S ts ≡ parts R ts
  parts_same ts lt =
      seq-same _ _ (B.expr 0 ts) (A.expr 0 ts lt) (λ c r h.
      seq-same _ _ (signed 23 r) refl (λ d q g.
      let x = ap length g.1 in
      seq-same _ _ (B.expr 0 q) (A.expr 0 q (omega (arith, h.1))) (λ u v w. refl)))

  by_tail-same : (h : InfixToken) (m : ℕ) (t : Token) (ts : List Token) → length ts < b → by_infix S h m (t ∷ ts) ≡ by_infix R h m (t ∷ ts)
  by_tail-same (Binary o l) m t ts lt =
      cond_same (leb m l) _ _ _
      (seq-same _ _ (right-sound S X o (suc l) ts) (ap (λ z. seq z (emit (ins o))) (A.expr (suc l) ts lt))
      (λ c r h. A.more m r (omega (arith, rest-short h.pre r ts h.eq))))
  by_tail-same Question m t ts lt =
      cond_same (leb m 0) _ _ _
      (seq-same _ _ (parts-sound S X ts) (parts_same ts lt) (λ c r h. A.more m r (omega (arith, rest-short h.pre r ts h.eq))))
  by_tail-same Stop m t ts lt = refl

  agree-step : Agree (suc b) (step S) (step R)
  agree-step = record { expr = ex; more = mo }
    where
      ex : (m : ℕ) (ts : List Token) → length ts < suc b → (step S).expr m ts ≡ (step R).expr m ts
      ex m [] lt = refl
      ex m (t ∷ ts) lt =
          seq-same _ _ (by_head-sound S X t ts (heads t)) (by_head-same (prefix_of t) ts (omega arith))
          (λ c r h. A.more m r (omega (arith, (took-tree r (h.derives 0) h.eq h.code).1)))

      mo : (m : ℕ) (ts : List Token) → length ts < suc b → (step S).more m ts ≡ (step R).more m ts
      mo m [] lt = refl
      mo m (t ∷ ts) lt = by_tail-same (infix_of t) m t ts (omega arith)

-- what is deep enough reads alike
deep-agree : (n k : ℕ) → Agree n (deep n) (deep (n + k))
unfolding deep
deep-agree zero k = record { expr = λ m ts lt. absurd (omega arith); more = λ m ts lt. absurd (omega arith) }
deep-agree (suc n) k = rw suc-add (agree-step (deep n) (deep (n + k)) n (deep-sound n) (deep-agree n k))

-- as deep as s, or deeper
deeper : (s n : ℕ) → s ≤ n → Agree s (deep s) (deep n)
deeper s n le = let e : s + (n - s) ≡ n = omega arith in rw e at (deep-agree s (n - s))

reader-agree : (b : ℕ) → Agree b (deep b) reader
unfolding reader
reader-agree b = record {
  expr = λ m ts lt. sym ((deeper (suc (length ts)) b lt).expr m ts (omega arith));
  more = λ m ts lt. sym ((deeper (suc (length ts)) b lt).more m ts (omega arith));
}

-- the reader's equations
pub expr·law : (m : ℕ) (ts : List Token) → reader.expr m ts ≡ seq (by_prefix reader (prefix_l ts) (drop 1 ts)) (reader.more m)
unfolding reader deep
expr·law m ts = (agree-step (deep (length ts)) reader (length ts) (deep-sound (length ts)) (reader-agree (length ts))).expr m ts (omega arith)

pub more·law : (m : ℕ) (ts : List Token) → reader.more m ts ≡ by_infix reader (infix_l ts) m ts
unfolding reader deep
more·law m ts = (agree-step (deep (length ts)) reader (length ts) (deep-sound (length ts)) (reader-agree (length ts))).more m ts (omega arith)
