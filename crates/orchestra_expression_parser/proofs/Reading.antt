-- The ways through the expression reader.
use Prim.Native.Nat.{ℕ, zero, suc, ◌+◌, ◌-◌, ◌≤◌, ◌<◌}
use native.Mathlib.Numerals.{add-one}
use native.Mathlib.Omega.{arith}
use mathlib.Core.Path.{◌≡◌, refl, sym, ◌∙◌}
use mathlib.Core.List.{List, [], ◌∷◌}
use lib.ListN.{length, drop}
use lib.Ieee.{Float}
use borrow.Author.Tests.{le-leb, lt-leb}
use Rattle.orchestra_tokens.specs.declared.Token.{Token}
use Rattle.orchestra_syntax.specs.inside.Program.{ins, choose_op}
use Rattle.std.specs.Prelude.{Some, None}
use Rattle.orchestra_expressions.specs.declared.PrefixToken.{PrefixToken}
use Rattle.orchestra_expressions.specs.declared.PrefixToken.TheVariants.{Push, Unary, Open, Call, Call2, Bad}
use Rattle.orchestra_expressions.specs.declared.InfixToken.{InfixToken}
use Rattle.orchestra_expressions.specs.declared.InfixToken.TheVariants.{Binary, Question, Stop}
use Rattle.orchestra_expressions.specs.Roles.{prefix_l, infix_l}
use Rattle.orchestra_expressions.specs.Reader.{seq, sign, emit, lastly, by_prefix, right, parts, reader}
use Rattle.orchestra_expressions.specs.Areas.{ParseState, Areas, stored_at, one_more, passed, left, Ready, Runs, gone, refused}
use Rattle.orchestra_expressions.proofs.ReaderSteps.{All-weaken, reader-bounded, expr·law, more·law, lastly-took}
use Rattle.orchestra_expressions.proofs.Tables as Tables
use Rattle.orchestra_expressions.proofs.Tables.{Tails, tails, levels}
use Rattle.orchestra_expressions.proofs.Runs.{runs_seq, runs_as, runs_after, runs-sign, runs-emit, stays, Past, past-ready, past-sign, past-passed, past-start, past-runs}

-- ---- a token is there

abbrev pub Starts : PrefixToken → Type 0
Starts (Push o a x) = Unit {0}
Starts (Unary o) = Unit {0}
Starts Open = Unit {0}
Starts (Call o) = Unit {0}
Starts (Call2 o) = Unit {0}
Starts Bad = ⊥

abbrev pub GoesOn : InfixToken → Type 0
GoesOn (Binary o l) = Unit {0}
GoesOn Question = Unit {0}
GoesOn Stop = ⊥

starts-in : (ts : List Token) (at : ℕ) → Starts (prefix_l (drop at ts)) → at < length ts
starts-in [] zero f = absurd f
starts-in [] (suc at) f = absurd f
starts-in (t ∷ ts) zero f = omega arith
starts-in (t ∷ ts) (suc at) f = let h = starts-in ts at f in omega arith

goes_in : (ts : List Token) (at : ℕ) → GoesOn (infix_l (drop at ts)) → at < length ts
goes_in [] zero f = absurd f
goes_in [] (suc at) f = absurd f
goes_in (t ∷ ts) zero f = omega arith
goes_in (t ∷ ts) (suc at) f = let h = goes_in ts at f in omega arith

pub head_in : (ts : List Token) (at : ℕ) {k h : PrefixToken} → k ≡ prefix_l (drop at ts) → k ≡ h → Starts h → at < length ts
head_in ts at e q f = starts-in ts at (rw (sym e ∙ q) f)

pub tail-in : (ts : List Token) (at : ℕ) {k h : InfixToken} → k ≡ infix_l (drop at ts) → k ≡ h → GoesOn h → at < length ts
tail-in ts at e q f = goes_in ts at (rw (sym e ∙ q) f)

small : (ts : List Token) (h : InfixToken) → infix_l ts ≡ h → {o l : ℕ} → h ≡ Binary o l → l < 7
small [] h e q = let z : ◌≡◌ {A = ℕ} 0 1 = cc in absurd (omega arith)
small (t ∷ ts) h e q = go (tails t) (e ∙ q)
  where
    go : {k : InfixToken} {o l : ℕ} → Tails t k → k ≡ Binary o l → l < 7
    go {l = l} (Tables.binary {l = j} x p) q = let z : l ≡ j = cc in let y = levels p in omega arith
    go (Tables.question x) q = let z : ◌≡◌ {A = ℕ} 0 1 = cc in absurd (omega arith)
    go Tables.stop q = let z : ◌≡◌ {A = ℕ} 0 1 = cc in absurd (omega arith)

pub tail-small : (ts : List Token) (at : ℕ) {k : InfixToken} {o l : ℕ} → k ≡ infix_l (drop at ts) → k ≡ Binary o l → l < 7
tail-small ts at e q = small (drop at ts) _ (sym e) q

-- ---- past what was read

pub head-past : (ts : List Token) {t : ℕ} {g : ParseState} {m : Areas} (at : ℕ) {out : ℕ} {k h : PrefixToken} → Ready ts 0 g m → left ts g ≡ t → g ≡ Some (at, out)
    → k ≡ prefix_l (drop at ts) → k ≡ h → Starts h → Past ts t 1 (Some (at + 1, out)) m
head-past ts at r e q x y f = past-start r q e (head_in ts at x y f)

pub tail-past : (ts : List Token) {t : ℕ} {g : ParseState} {m : Areas} (at : ℕ) {out : ℕ} {k h : InfixToken} → Ready ts 0 g m → left ts g ≡ t → g ≡ Some (at, out)
    → k ≡ infix_l (drop at ts) → k ≡ h → GoesOn h → Past ts t 1 (Some (at + 1, out)) m
tail-past ts at r e q x y f = past-start r q e (tail-in ts at x y f)

module _ {ts : List Token} {t k : ℕ} {g h : ParseState} {m n : Areas} where
  pub past-expr : (j : ℕ) → Past ts t k g m → Runs ts (reader.expr j) g m h n → Past ts t k h n
  past-expr j p r = past-runs (λ z. All-weaken (reader-bounded.expr j z) (λ c r h. h.0)) p r

  pub past-last : (s o : ℕ) → Past ts t k g m → Runs ts (lastly reader s o) g m h n → Past ts t k h n
  past-last s o p r = past-runs (λ z. All-weaken (lastly-took reader reader-bounded s o z) (λ c r h. omega (arith, h.0))) p r

pub falls : {ts : List Token} {t k : ℕ} {g : ParseState} {m : Areas} → Past ts t k g m → (left ts g < t) × Ready ts 0 g m
falls p = (p.less, past-ready p)

-- ---- the last argument of a call

pub last_none : {ts : List Token} (s o : ℕ) {g a : ParseState} {m : Areas} → a ≡ passed s ts g → a ≡ None → Runs ts (lastly reader s o) g m None m
last_none {ts} s o {g} e f = runs_seq (λ p. seq (reader.expr 0 p) (λ q. seq (sign 16 q) (emit (ins o)))) (runs-sign ts s g (sym f ∙ e)) (gone refl refl refl)

pub last-is : {ts : List Token} (s o : ℕ) {g a b c r : ParseState} {at out : ℕ} {m n u : Areas} → Ready ts 0 g m → a ≡ passed s ts g → a ≡ Some (at, out) → Runs ts (reader.expr 0) (Some (at, out)) m b n
    → c ≡ passed 16 ts b → r ≡ one_more c → u ≡ stored_at c n (ins o) → Runs ts (lastly reader s o) g m r u
last-is {ts} s o {g} {b = b} q e f x h y z =
    runs_seq (λ p. seq (reader.expr 0 p) (λ q. seq (sign 16 q) (emit (ins o)))) (runs-sign ts s g (sym f ∙ e))
    (runs_seq (λ q. seq (sign 16 q) (emit (ins o))) x
    (runs_seq (emit (ins o)) (runs-sign ts 16 b h) (runs-emit (ins o) (past-sign 16 (past-expr 0 (past-passed s q refl (sym f ∙ e) refl) x) h).ready y z)))

-- ---- what an operand's head leads to

expr-as : (ts : List Token) (j at : ℕ) {out : ℕ} {g r : ParseState} {m n : Areas} {k : PrefixToken} (h : PrefixToken) → g ≡ Some (at, out) → k ≡ prefix_l (drop at ts) → k ≡ h
    → Runs ts (λ z. seq (by_prefix reader h z) (reader.more j)) (Some (at + 1, out)) m r n → Runs ts (reader.expr j) g m r n
expr-as ts j at h q x y w =
    let z : prefix_l (drop at ts) ≡ h = sym x ∙ y in
    rw q (runs_as (reader.expr j) refl (expr·law j (drop at ts) ∙ rw z) (runs_after w))

pub expr-bad : (ts : List Token) (j at : ℕ) {out : ℕ} {g : ParseState} {m : Areas} {k : PrefixToken} → g ≡ Some (at, out) → k ≡ prefix_l (drop at ts) → k ≡ Bad
    → Runs ts (reader.expr j) g m None m
expr-bad ts j at q x y = let z : prefix_l (drop at ts) ≡ Bad = sym x ∙ y in refused _ _ [] q (expr·law j (drop at ts) ∙ rw z) refl refl

module _ (ts : List Token) (j at : ℕ) {out : ℕ} {g : ParseState} {m : Areas} {k : PrefixToken} (q : Ready ts 0 g m) (e : g ≡ Some (at, out)) (x : k ≡ prefix_l (drop at ts)) where
  abbrev past : {h : PrefixToken} → k ≡ h → Starts h → Past ts (left ts g) 1 (Some (at + 1, out)) m
  past y f = head-past ts at q refl e x y f

  pub push-is : (o a : ℕ) (v : Float) → k ≡ Push o a v → {b r : ParseState} {n u : Areas} → b ≡ one_more (Some (at + 1, out)) → n ≡ stored_at (Some (at + 1, out)) m (record { op = o; arg = a; val = v })
      → Runs ts (reader.more j) b n r u → Runs ts (reader.expr j) g m r u
  push-is o a v y c d z = expr-as ts j at (Push o a v) e x y (runs_seq (reader.more j) (runs-emit (record { op = o; arg = a; val = v }) (past y tt).ready c d) z)

  pub unary-is : (o : ℕ) → k ≡ Unary o → {a b r : ParseState} {n u w : Areas} → Runs ts (reader.expr 7) (Some (at + 1, out)) m a n → b ≡ one_more a → u ≡ stored_at a n (ins o)
      → Runs ts (reader.more j) b u r w → Runs ts (reader.expr j) g m r w
  unary-is o y c d f z =
      expr-as ts j at (Unary o) e x y (runs_seq (reader.more j) (runs_seq (emit (ins o)) c (runs-emit (ins o) (past-expr 7 (past y tt) c).ready d f)) z)

  pub open_is : k ≡ Open → {a b r : ParseState} {n u : Areas} → Runs ts (reader.expr 0) (Some (at + 1, out)) m a n → b ≡ passed 16 ts a → Runs ts (reader.more j) b n r u → Runs ts (reader.expr j) g m r u
  open_is y {a} c d z = expr-as ts j at Open e x y (runs_seq (reader.more j) (runs_seq (sign 16) c (runs-sign ts 16 a d)) z)

  pub call-is : (o : ℕ) → k ≡ Call o → {a r : ParseState} {n u : Areas} → Runs ts (lastly reader 15 o) (Some (at + 1, out)) m a n → Runs ts (reader.more j) a n r u → Runs ts (reader.expr j) g m r u
  call-is o y c z = expr-as ts j at (Call o) e x y (runs_seq (reader.more j) c z)

  pub call2-is : (o : ℕ) → k ≡ Call2 o → {a b c r : ParseState} {n u w : Areas} → a ≡ passed 15 ts (Some (at + 1, out)) → Runs ts (reader.expr 0) a m b n → Runs ts (lastly reader 19 o) b n c u
      → Runs ts (reader.more j) c u r w → Runs ts (reader.expr j) g m r w
  call2-is o y d f h z =
      expr-as ts j at (Call2 o) e x y
      (runs_seq (reader.more j)
      (runs_seq (λ p. seq (reader.expr 0 p) (lastly reader 19 o)) (runs-sign ts 15 (Some (at + 1, out)) d) (runs_seq (lastly reader 19 o) f h)) z)

-- ---- what goes on after an operand

more-as : (ts : List Token) (j at : ℕ) {out : ℕ} {g r : ParseState} {m n : Areas} {k : InfixToken} (o l : ℕ) → g ≡ Some (at, out) → k ≡ infix_l (drop at ts)
    → k ≡ Binary o l → j ≤ l → Runs ts (λ z. seq (right reader o (l + 1) z) (reader.more j)) (Some (at + 1, out)) m r n → Runs ts (reader.more j) g m r n
more-as ts j at o l q x y le w =
    let z : infix_l (drop at ts) ≡ Binary o l = sym x ∙ y in
    rw q (runs_as (reader.more j) refl (more·law j (drop at ts) ∙ rw (z, le-leb j l le, add-one)) (runs_after w))

question-as : (ts : List Token) (j at : ℕ) {out : ℕ} {g r : ParseState} {m n : Areas} {k : InfixToken} → g ≡ Some (at, out) → k ≡ infix_l (drop at ts)
    → k ≡ Question → j ≡ 0 → Runs ts (λ z. seq (parts reader z) (reader.more j)) (Some (at + 1, out)) m r n → Runs ts (reader.more j) g m r n
question-as ts j at q x y e w =
    let z : infix_l (drop at ts) ≡ Question = sym x ∙ y in
    rw q (runs_as (reader.more j) refl (more·law j (drop at ts) ∙ rw (z, le-leb j 0 (omega arith))) (runs_after w))

module _ (ts : List Token) (j at : ℕ) {out : ℕ} {g : ParseState} {m : Areas} {k : InfixToken} (q : Ready ts 0 g m) (e : g ≡ Some (at, out)) (x : k ≡ infix_l (drop at ts)) where
  pub binary-is : (o l : ℕ) → k ≡ Binary o l → j ≤ l → {a b r : ParseState} {n u w : Areas} → Runs ts (reader.expr (l + 1)) (Some (at + 1, out)) m a n → b ≡ one_more a → u ≡ stored_at a n (ins o)
      → Runs ts (reader.more j) b u r w → Runs ts (reader.more j) g m r w
  binary-is o l y le c d f z =
      more-as ts j at o l e x y le
      (runs_seq (reader.more j) (runs_seq (emit (ins o)) c (runs-emit (ins o) (past-expr (l + 1) (tail-past ts at q refl e x y tt) c).ready d f)) z)

  pub choice-is : k ≡ Question → j ≡ 0 → {a b c d r : ParseState} {n u v w : Areas} → Runs ts (reader.expr 0) (Some (at + 1, out)) m a n → b ≡ passed 23 ts a → Runs ts (reader.expr 0) b n c u
      → d ≡ one_more c → v ≡ stored_at c u (ins choose_op) → Runs ts (reader.more j) d v r w → Runs ts (reader.more j) g m r w
  choice-is y le {a} f h i c v z =
      question-as ts j at e x y le
      (runs_seq (reader.more j) (runs_seq (λ p. seq (sign 23 p) (λ q. seq (reader.expr 0 q) (emit (ins choose_op)))) f
      (runs_seq (λ q. seq (reader.expr 0 q) (emit (ins choose_op))) (runs-sign ts 23 a h) (runs_seq (emit (ins choose_op)) i
      (runs-emit (ins choose_op) (past-expr 0 (past-sign 23 (past-expr 0 (tail-past ts at q refl e x y tt) f) h) i).ready c v)))) z)

module _ (ts : List Token) (j at : ℕ) {out : ℕ} {g : ParseState} {m : Areas} {k : InfixToken} (r : Ready ts 0 g m) (q : g ≡ Some (at, out)) (x : k ≡ infix_l (drop at ts)) where
  pub stop-binary : (o l : ℕ) → k ≡ Binary o l → l < j → Runs ts (reader.more j) g m g m
  stop-binary o l y lt =
      let z : infix_l (drop at ts) ≡ Binary o l = sym x ∙ y in
      stays r q (more·law j (drop at ts) ∙ rw (z, lt-leb j l lt))

  pub stop-question : k ≡ Question → 0 < j → Runs ts (reader.more j) g m g m
  stop-question y lt =
      let z : infix_l (drop at ts) ≡ Question = sym x ∙ y in
      stays r q (more·law j (drop at ts) ∙ rw (z, lt-leb j 0 lt))

  pub stop-here : k ≡ Stop → Runs ts (reader.more j) g m g m
  stop-here y = let z : infix_l (drop at ts) ≡ Stop = sym x ∙ y in stays r q (more·law j (drop at ts) ∙ rw z)
