-- No tokens have two trees: a part is read as its code, with what follows it left, and the code of statements or of names determines them.
use Prim.Native.Nat.{ℕ}
use native.Mathlib.Omega.{arith}
use mathlib.Core.Path.{◌≡◌, refl, sym, ap, ◌∙◌}
use mathlib.Core.List.{List, [], ◌∷◌, ◌++◌, map, append_assoc, append-nil}
use lib.ListN.{get_or}
use Rattle.orchestra_tokens.specs.declared.Token.{Token}
use Rattle.orchestra_tokens.specs.declared.Token.TheVariants.{Sign}
use Rattle.orchestra_syntax.specs.Tree.{Statements, Declaration, Instrument, field_kind}
use Rattle.orchestra_syntax.specs.inside.Program.{code, declare}
use Rattle.orchestra_expressions.specs.Reader.{ok}
use Rattle.orchestra_grammar.specs.declared.DeclarationStart.TheVariants.{Stop as No}
use Rattle.orchestra_grammar.specs.Starts.{declaration_start_l}
use Rattle.orchestra_grammar.specs.Reader.{by_declaration_start, fields, statements}
use Rattle.orchestra_syntax.specs.Grammar.{Stmts, Names, one, more, Fields, Kinds, ivar, ksig, asig, imports, Decls, none as no·decls, some as some·decls, Instr, is, Orchestra, last, next}
use Rattle.orchestra_expressions.proofs.Unique.{code-unique}
use Rattle.orchestra_grammar.proofs.Complete.{statements-reads, fields-reads, kind-reads, no_lead, orchestra-some}

never : {A : Type 0} → ◌≡◌ {A = ℕ} 0 1 → A
never z = absurd (omega arith)

pub statements-once : {t u : Statements} {ts us : List Token} → Stmts t ts → Stmts u us → (p q : List Token) → ts ++ Sign 18 ∷ p ≡ us ++ Sign 18 ∷ q → (t ≡ u) × (p ≡ q)
statements-once {t} {u} S R p q h =
    let z : ok (code t) (Sign 18 ∷ p) ≡ ok (code u) (Sign 18 ∷ q) = sym (statements-reads S p) ∙ ap statements h ∙ statements-reads R q in
    (code-unique t u (cc), cc)

-- ---- names and declarations

declare-names : (k : ℕ) (ns : List ℕ) → map (λ i. i.arg) (declare k ns) ≡ ns
unfolding declare
declare-names k [] = refl
declare-names k (n ∷ ns) = ap (λ l. n ∷ l) (declare-names k ns)

declare-unique : (k l : ℕ) (ns ms : List ℕ) → declare k ns ≡ declare l ms → ns ≡ ms
declare-unique k l ns ms h = sym (declare-names k ns) ∙ ap (map (λ i. i.arg)) h ∙ declare-names l ms

declare-kind : {ns : List ℕ} {ts : List Token} → Names ns ts → (k : ℕ) → get_or (map (λ i. i.op) (declare k ns)) 0 0 ≡ k
unfolding declare
declare-kind (one n) k = refl
declare-kind (more n s) k = refl

fields-once : {ns ms : List ℕ} {ts us : List Token} → Fields ns ts → Fields ms us → (p q : List Token) → ts ++ Sign 16 ∷ p ≡ us ++ Sign 16 ∷ q → (ns ≡ ms) × (p ≡ q)
fields-once F G p q h =
    let z = sym (fields-reads F p) ∙ ap fields h ∙ fields-reads G q in
    (declare-unique field_kind field_kind _ _ (cc), cc)

-- a kind starts a declaration
lead-not : {k : ℕ} {ks : List Token} → Kinds k ks → (r x : List Token) → declaration_start_l r ≡ No → r ≡ ks ++ x → ◌≡◌ {A = ℕ} 0 1
lead-not ivar r x h e = let z = sym h ∙ ap declaration_start_l e in cc
lead-not ksig r x h e = let z = sym h ∙ ap declaration_start_l e in cc
lead-not asig r x h e = let z = sym h ∙ ap declaration_start_l e in cc
lead-not imports r x h e = let z = sym h ∙ ap declaration_start_l e in cc

flat-decl : (ks ts us r : List Token) → (ks ++ (ts ++ Sign 20 ∷ us)) ++ r ≡ ks ++ (ts ++ Sign 20 ∷ (us ++ r))
flat-decl ks ts us r = simp append_assoc

pub declarations-once : {ds es : List Declaration} {ts us : List Token} → Decls ds ts → Decls es us → (p q : List Token) → declaration_start_l p ≡ No → declaration_start_l q ≡ No
    → ts ++ p ≡ us ++ q → (ds ≡ es) × (p ≡ q)
declarations-once no·decls no·decls p q a b h = (refl, h)
declarations-once no·decls (some·decls {ks = ks} {ts = ts} {us = us} K N D) p q a b h = never (lead-not K p _ a (h ∙ flat-decl ks ts us q))
declarations-once (some·decls {ks = ks} {ts = ts} {us = us} K N D) no·decls p q a b h = never (lead-not K q _ b (sym h ∙ flat-decl ks ts us p))
declarations-once (some·decls {k = k} {ks = ks} {ns = ns} {ts = ts} {us = us} K N D) (some·decls {k = l} {ks = ls} {ns = ms} {ts = vs} {us = ws} L M E) p q a b h =
    let z : ok (declare k ns ++ []) (us ++ p) ≡ ok (declare l ms ++ []) (ws ++ q) =
    sym (kind-reads K N (us ++ p) (ok [])) ∙ ap (λ t. by_declaration_start (ok []) (declaration_start_l t) t) (sym (flat-decl ks ts us p) ∙ h ∙ flat-decl ls vs ws q)
    ∙ kind-reads L M (ws ++ q) (ok []) in
    let c : declare k ns ≡ declare l ms = cc (append-nil (declare k ns), append-nil (declare l ms)) in
    let i : k ≡ l = sym (declare-kind N k) ∙ ap (λ d. get_or (map (λ j. j.op) d) 0 0) c ∙ declare-kind M l in
    let j = declare-unique k l ns ms c in
    let (w, v) = declarations-once D E p q a b (cc) in
    (cc, v)

-- ---- instruments

flat : (ts us vs r : List Token) → (ts ++ Sign 16 ∷ Sign 17 ∷ (us ++ (vs ++ Sign 18 ∷ []))) ++ r ≡ ts ++ Sign 16 ∷ (Sign 17 ∷ (us ++ (vs ++ Sign 18 ∷ r)))
flat ts us vs r = simp append_assoc

pub instrument-once : {i j : Instrument} {ts us : List Token} → Instr i ts → Instr j us → (p q : List Token) → ts ++ p ≡ us ++ q → (i ≡ j) × (p ≡ q)
instrument-once (is n {ts = ts} {us = us} {vs = vs} F D S) (is m {ts = ts'} {us = us'} {vs = vs'} G E R) p q h =
    let i : n ≡ m = cc in
    let (x, y) = fields-once F G (Sign 17 ∷ (us ++ (vs ++ Sign 18 ∷ p))) (Sign 17 ∷ (us' ++ (vs' ++ Sign 18 ∷ q))) (cc (flat ts us vs p, flat ts' us' vs' q)) in
    let (u, v) = declarations-once D E (vs ++ Sign 18 ∷ p) (vs' ++ Sign 18 ∷ q) (no_lead S p) (no_lead R q) (cc) in
    let (w, z) = statements-once S R p q v in
    (cc, z)

-- no tokens are two orchestras
pub unique : {is js : List Instrument} {ts us : List Token} → Orchestra is ts → Orchestra js us → ts ≡ us → is ≡ js
unique (last {ts = ts} d) (last {ts = us} e) h = ap (λ i. i ∷ []) (instrument-once d e [] [] (ap (λ l. l ++ []) h)).0
unique (last {ts = ts} d) (next {us = vs} e o) h =
    let (x, y) = instrument-once d e [] vs (append-nil ts ∙ h) in
    let (t, ws, z) = orchestra-some o in
    never (cc)
unique (next {us = vs} d o) (last {ts = us} e) h =
    let (x, y) = instrument-once d e vs [] (h ∙ sym (append-nil us)) in
    let (t, ws, z) = orchestra-some o in
    never (cc)
unique (next {us = vs} d o) (next {us = ws} e r) h =
    let (x, y) = instrument-once d e vs ws h in
    let z = unique o r y in
    cc
