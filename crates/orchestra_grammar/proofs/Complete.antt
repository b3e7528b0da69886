-- Every orchestra of the grammar is read as the program of its tree.
use Prim.Native.Nat.{ℕ, ◌+◌, ◌-◌}
use mathlib.Core.Path.{◌≡◌, refl, sym, ap, ◌∙◌}
use mathlib.Core.List.{List, [], ◌∷◌, ◌++◌, append_assoc, append-nil}
use mathlib.Core.Bool.{false}
use Rattle.orchestra_tokens.specs.declared.Token.{Token}
use Rattle.orchestra_tokens.specs.declared.Token.TheVariants.{Symbol, Sign}
use Rattle.orchestra_syntax.specs.Tree.{Expr, Statements, Declaration, Instrument, field_kind}
use Rattle.orchestra_syntax.specs.inside.Program.{ins, ins_arg, instr_op, output_op, if_op, else_op, end_op, store_op, compile, code, declare, declared, program, instrument as code·of}
use Rattle.orchestra_expressions.specs.Roles.{sign_l}
use Rattle.orchestra_expressions.specs.Reader.{Res, no, ok, prepend}
use Rattle.orchestra_grammar.specs.declared.DeclarationStart.TheVariants.{Stop as No}
use Rattle.orchestra_grammar.specs.Starts.{declaration_start_l}
use Rattle.orchestra_grammar.specs.Reader.{set_to, bracketed, branches, statements, names, listed, by_declaration_start, declarations, fields, header, body, instrument, orchestra}
use Rattle.orchestra_syntax.specs.Grammar.{IsExpr, Stmts, none, set, out, when, either, Names, one, more, Fields, none as no·fields, some as some·fields, Kinds, ivar, ksig, asig, imports, Decls, none as no·decls, some as some·decls, Instr, is, Orchestra, last, next}
use Rattle.orchestra_grammar.proofs.Steps.{statements·law, names·law, declarations·law, orchestra·law}
use Rattle.orchestra_expressions.proofs.Complete.{complete as expr-complete}

module _ {e : Expr} {ts : List Token} (d : IsExpr e ts) where
  set_to-reads : (n : ℕ) (r : List Token) → set_to n (Sign 21 ∷ (ts ++ Sign 20 ∷ r)) ≡ ok (compile e ++ ins_arg store_op n ∷ []) r
  set_to-reads n r = rw (expr-complete d (Sign 20 ∷ r) tt)

  output-reads : (r : List Token) → bracketed 20 output_op (Sign 15 ∷ (ts ++ Sign 16 ∷ Sign 20 ∷ r)) ≡ ok (compile e ++ ins output_op ∷ []) r
  output-reads r = rw (expr-complete d (Sign 16 ∷ Sign 20 ∷ r) tt)

  guard-reads : (r : List Token) → bracketed 17 if_op (Sign 15 ∷ (ts ++ Sign 16 ∷ Sign 17 ∷ r)) ≡ ok (compile e ++ ins if_op ∷ []) r
  guard-reads r = rw (expr-complete d (Sign 16 ∷ Sign 17 ∷ r) tt)

-- what follows an if without else does not start with else
pub not-else : {t : Statements} {ts : List Token} → Stmts t ts → (r : List Token) → sign_l (ts ++ Sign 18 ∷ r) 8 ≡ false
not-else none r = refl
not-else (set n d s) r = refl
not-else (out d s) r = refl
not-else (when d a s) r = refl
not-else (either d a b s) r = refl

-- statements, read up to the } that ends them
abbrev Reads : Statements → List Token → Type 0
Reads t ts = (r : List Token) → statements (ts ++ Sign 18 ∷ r) ≡ ok (code t) (Sign 18 ∷ r)

module _ {e : Expr} {ts : List Token} (d : IsExpr e ts) (a : Statements) (xs : List Token) (A : Reads a xs) where
  branches-when : (q : List Token) → sign_l q 8 ≡ false
      → branches statements (Sign 15 ∷ (ts ++ Sign 16 ∷ Sign 17 ∷ (xs ++ Sign 18 ∷ q))) ≡ ok ((compile e ++ ins if_op ∷ []) ++ (code a ++ (ins else_op ∷ ins end_op ∷ []))) q
  branches-when q h = rw (guard-reads d (xs ++ Sign 18 ∷ q), A q, h)

  branches-either : (b : Statements) (ys : List Token) → Reads b ys → (q : List Token)
      → branches statements (Sign 15 ∷ (ts ++ Sign 16 ∷ Sign 17 ∷ (xs ++ Sign 18 ∷ Sign 8 ∷ Sign 17 ∷ (ys ++ Sign 18 ∷ q))))
      ≡ ok ((compile e ++ ins if_op ∷ []) ++ (code a ++ (ins else_op ∷ (code b ++ ins end_op ∷ [])))) q
  branches-either b ys B q = rw (guard-reads d (xs ++ Sign 18 ∷ Sign 8 ∷ Sign 17 ∷ (ys ++ Sign 18 ∷ q)), A (Sign 8 ∷ Sign 17 ∷ (ys ++ Sign 18 ∷ q)), B q)

pub statements-reads : {t : Statements} {ts : List Token} → Stmts t ts → Reads t ts
unfolding code
statements-reads none r = statements·law (Sign 18 ∷ r)
statements-reads (set n {e = e} {ts = ts} {r = t} {us = us} d s) r =
    let q = us ++ Sign 18 ∷ r in
    let z : (ts ++ Sign 20 ∷ us) ++ Sign 18 ∷ r ≡ ts ++ Sign 20 ∷ q = append_assoc ts (Sign 20 ∷ us) (Sign 18 ∷ r) in
    ap (λ w. statements (Symbol n ∷ Sign 21 ∷ w)) z
    ∙ statements·law (Symbol n ∷ Sign 21 ∷ (ts ++ Sign 20 ∷ q))
    ∙ rw (set_to-reads d n q, statements-reads s r) (ap (λ c. ok c (Sign 18 ∷ r)) (append_assoc (compile e) (ins_arg store_op n ∷ []) (code t)))
statements-reads (out {e = e} {ts = ts} {r = t} {us = us} d s) r =
    let q = us ++ Sign 18 ∷ r in
    let z : (ts ++ Sign 16 ∷ Sign 20 ∷ us) ++ Sign 18 ∷ r ≡ ts ++ Sign 16 ∷ Sign 20 ∷ q = append_assoc ts (Sign 16 ∷ Sign 20 ∷ us) (Sign 18 ∷ r) in
    ap (λ w. statements (Sign 6 ∷ Sign 15 ∷ w)) z
    ∙ statements·law (Sign 6 ∷ Sign 15 ∷ (ts ++ Sign 16 ∷ Sign 20 ∷ q))
    ∙ rw (output-reads d q, statements-reads s r) (ap (λ c. ok c (Sign 18 ∷ r)) (append_assoc (compile e) (ins output_op ∷ []) (code t)))
statements-reads (when {e = e} {ts = ts} {a = a} {xs = xs} {r = t} {us = us} d x s) r =
    let q = us ++ Sign 18 ∷ r in
    let z : (ts ++ Sign 16 ∷ Sign 17 ∷ (xs ++ Sign 18 ∷ us)) ++ Sign 18 ∷ r ≡ ts ++ Sign 16 ∷ Sign 17 ∷ (xs ++ Sign 18 ∷ q) = simp append_assoc in
    ap (λ w. statements (Sign 7 ∷ Sign 15 ∷ w)) z
    ∙ statements·law (Sign 7 ∷ Sign 15 ∷ (ts ++ Sign 16 ∷ Sign 17 ∷ (xs ++ Sign 18 ∷ q)))
    ∙ rw (branches-when d a xs (λ v. statements-reads x v) q (not-else s r), statements-reads s r) (ap (λ c. ok c (Sign 18 ∷ r)) (simp append_assoc))
statements-reads (either {e = e} {ts = ts} {a = a} {xs = xs} {b = b} {ys = ys} {r = t} {us = us} d x y s) r =
    let q = us ++ Sign 18 ∷ r in
    let z : (ts ++ Sign 16 ∷ Sign 17 ∷ (xs ++ Sign 18 ∷ Sign 8 ∷ Sign 17 ∷ (ys ++ Sign 18 ∷ us))) ++ Sign 18 ∷ r
    ≡ ts ++ Sign 16 ∷ Sign 17 ∷ (xs ++ Sign 18 ∷ Sign 8 ∷ Sign 17 ∷ (ys ++ Sign 18 ∷ q)) = simp append_assoc in
    ap (λ w. statements (Sign 7 ∷ Sign 15 ∷ w)) z
    ∙ statements·law (Sign 7 ∷ Sign 15 ∷ (ts ++ Sign 16 ∷ Sign 17 ∷ (xs ++ Sign 18 ∷ Sign 8 ∷ Sign 17 ∷ (ys ++ Sign 18 ∷ q))))
    ∙ rw (branches-either d a xs (λ v. statements-reads x v) b ys (λ v. statements-reads y v) q, statements-reads s r) (ap (λ c. ok c (Sign 18 ∷ r)) (simp append_assoc))

-- ---- names and declarations

names-reads : {ns : List ℕ} {ts : List Token} → Names ns ts → (k : ℕ) (r : List Token) → sign_l r 19 ≡ false → names k (ts ++ r) ≡ ok (declare k ns) r
unfolding declare
names-reads (one n) k r h = names·law k (Symbol n ∷ r) ∙ rw h
names-reads (more n {ts = ts} s) k r h = names·law k (Symbol n ∷ Sign 19 ∷ (ts ++ r)) ∙ rw (names-reads s k r h)

listed-reads : {ns : List ℕ} {ts : List Token} → Names ns ts → (k : ℕ) (q : List Token) → listed k (ts ++ Sign 20 ∷ q) ≡ ok (declare k ns) q
listed-reads {ns = ns} s k q = rw (names-reads s k (Sign 20 ∷ q) refl, append-nil (declare k ns))

prepend-nil : (x : Res) → prepend [] x ≡ x
prepend-nil no = refl
prepend-nil (ok c r) = refl

pub kind-reads : {k : ℕ} {ks : List Token} → Kinds k ks → {ns : List ℕ} {ts : List Token} → Names ns ts → (q : List Token) (D : List Token → Res)
    → by_declaration_start D (declaration_start_l (ks ++ (ts ++ Sign 20 ∷ q))) (ks ++ (ts ++ Sign 20 ∷ q)) ≡ prepend (declare k ns) (D q)
kind-reads ivar s q D = rw (listed-reads s 2 q)
kind-reads ksig s q D = rw (listed-reads s 3 q)
kind-reads asig s q D = rw (listed-reads s 4 q)
kind-reads imports {ns = ns} s q D = rw (listed-reads s 5 q) (prepend-nil (prepend (declare 5 ns) (D q)))

declarations-reads : {ds : List Declaration} {ts : List Token} → Decls ds ts → (r : List Token) → declaration_start_l r ≡ No → declarations (ts ++ r) ≡ ok (declared ds) r
unfolding declared
declarations-reads no·decls r h = declarations·law r ∙ rw h
declarations-reads (some·decls {k = k} {ks = ks} {ns = ns} {ts = ts} {ds = ds} {us = us} K N D) r h =
    let z : (ks ++ (ts ++ Sign 20 ∷ us)) ++ r ≡ ks ++ (ts ++ Sign 20 ∷ (us ++ r)) = simp append_assoc in
    ap declarations z
    ∙ declarations·law (ks ++ (ts ++ Sign 20 ∷ (us ++ r)))
    ∙ kind-reads K N (us ++ r) declarations
    ∙ rw (declarations-reads D r h)

pub fields-reads : {fs : List ℕ} {ts : List Token} → Fields fs ts → (q : List Token) → fields (ts ++ Sign 16 ∷ q) ≡ ok (declare field_kind fs) (Sign 16 ∷ q)
unfolding declare
fields-reads no·fields q = refl
fields-reads (some·fields (one n)) q = names-reads (one n) field_kind (Sign 16 ∷ q) refl
fields-reads (some·fields (more n s)) q = names-reads (more n s) field_kind (Sign 16 ∷ q) refl

-- ---- instruments

-- a statement or the end of a block starts no declaration
pub no_lead : {t : Statements} {ts : List Token} → Stmts t ts → (r : List Token) → declaration_start_l (ts ++ Sign 18 ∷ r) ≡ No
no_lead none r = refl
no_lead (set n d s) r = refl
no_lead (out d s) r = refl
no_lead (when d a s) r = refl
no_lead (either d a b s) r = refl

header-reads : (n : ℕ) {fs : List ℕ} {ts : List Token} → Fields fs ts → (q : List Token)
    → header (Symbol n ∷ Sign 15 ∷ (ts ++ Sign 16 ∷ q)) ≡ ok (ins_arg instr_op n ∷ declare field_kind fs) q
header-reads n {fs = fs} F q = rw (fields-reads F q, append-nil (declare field_kind fs))

body_reads : {ds : List Declaration} {us : List Token} {b : Statements} {vs : List Token} → Decls ds us → Stmts b vs → (r : List Token)
    → body (Sign 17 ∷ (us ++ (vs ++ Sign 18 ∷ r))) ≡ ok (declared ds ++ code b) r
body_reads {b = b} {vs = vs} D S r = rw (declarations-reads D (vs ++ Sign 18 ∷ r) (no_lead S r), statements-reads S r, append-nil (code b))

pub instrument-reads : {i : Instrument} {ts : List Token} → Instr i ts → (r : List Token) → instrument (ts ++ r) ≡ ok (code·of i) r
instrument-reads (is n {fs = fs} {ts = ts} {ds = ds} {us = us} {b = b} {vs = vs} F D S) r =
    let z : (ts ++ Sign 16 ∷ Sign 17 ∷ (us ++ (vs ++ Sign 18 ∷ []))) ++ r ≡ ts ++ Sign 16 ∷ Sign 17 ∷ (us ++ (vs ++ Sign 18 ∷ r)) = simp append_assoc in
    ap (λ w. instrument (Sign 1 ∷ Symbol n ∷ Sign 15 ∷ w)) z
    ∙ rw (header-reads n F (Sign 17 ∷ (us ++ (vs ++ Sign 18 ∷ r))), body_reads D S r)

pub orchestra-some : {js : List Instrument} {ts : List Token} → Orchestra js ts → (t : Token) × (us : List Token) × (ts ≡ t ∷ us)
orchestra-some (last (is n F D S)) = (_, _, refl)
orchestra-some (next (is n F D S) o) = (_, _, refl)

-- every orchestra is read as its program
pub complete : {js : List Instrument} {ts : List Token} → Orchestra js ts → orchestra ts ≡ ok (program js) []
unfolding program
complete (last {i = i} {ts = ts} d) =
    ap orchestra (sym (append-nil ts)) ∙ orchestra·law (ts ++ []) ∙ rw (instrument-reads d [])
complete (next {i = i} {ts = ts} {is = js} {us = us} d o) =
    let (t, vs, e) = orchestra-some o in
    orchestra·law (ts ++ us) ∙ rw (instrument-reads d us) (rw e (rw (sym e) (rw (complete o))))
