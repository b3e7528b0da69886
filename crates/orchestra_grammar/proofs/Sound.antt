-- What the reader reads is an orchestra of the grammar, and the program of its tree.
use Prim.Native.Nat.{ℕ}
use mathlib.Core.Path.{◌≡◌, refl, ap}
use mathlib.Core.List.{List, [], ◌∷◌, ◌++◌, append_assoc, append-nil}
use mathlib.Core.Bool.{Bool, true, false, cond}
use lib.ListN.{drop}
use lib.Dec.{eqb}
use borrow.Author.Tests.{eqb-true}
use Rattle.orchestra_tokens.specs.declared.Token.{Token}
use Rattle.orchestra_tokens.specs.declared.Token.TheVariants.{Number, Symbol, Whole, Sign}
use Rattle.orchestra_syntax.specs.Tree.{Expr, Statements, done, assign, output, branch, Declaration, Instrument, field_kind, imports_kind}
use Rattle.orchestra_syntax.specs.inside.Program.{Ins, ins, ins_arg, instr_op, output_op, if_op, else_op, end_op, store_op, compile, code, declare, declared, program, instrument as code·of}
use Rattle.orchestra_expressions.specs.Roles.{sign_l}
use Rattle.orchestra_expressions.specs.Reader.{Res, ok, seq}
use Rattle.orchestra_grammar.specs.declared.StatementStart.{StatementStart}
use Rattle.orchestra_grammar.specs.declared.StatementStart.TheVariants.{Name, Output, If, Stop}
use Rattle.orchestra_grammar.specs.declared.DeclarationStart.{DeclarationStart}
use Rattle.orchestra_grammar.specs.declared.DeclarationStart.TheVariants.{Kind, Imports, Stop as No}
use Rattle.orchestra_grammar.specs.Starts.{statement_start_l, declaration_start_l}
use Rattle.orchestra_grammar.specs.Reader.{set_to, bracketed, close, otherwise, branches, by_statement_start, step_statements, statements, name, names, step_names, listed, by_declaration_start, step_declarations, declarations, fields, header, body, instrument, orchestra, step_instruments, none as nothing}
use Rattle.orchestra_syntax.specs.Grammar.{IsExpr, Stmts, none, set, out, when, either, Names, one, more, Fields, none as no·fields, some as some·fields, Kinds, ivar, ksig, asig, imports, Decls, none as no·decls, some as some·decls, Instr, is, Orchestra, last, next}
use Rattle.orchestra_expressions.proofs.ReaderSteps.{All, none as unread, some as read, All-weaken, All-seq, All-cond, All-if, All-sign, All-read, Reads, reads, signed}
use Rattle.orchestra_grammar.proofs.Steady.{whole-all}
use Rattle.orchestra_expressions.proofs.Sound.{sound as expr-sound}

-- ---- a token by what it is

-- a statement's first token
data Begins (ts : List Token) : StatementStart → Type 0 where
  a·name : (n : ℕ) → ts ≡ Symbol n ∷ drop 1 ts → Begins ts (Name n)
  an·output : ts ≡ Sign 6 ∷ drop 1 ts → Begins ts Output
  an·if : ts ≡ Sign 7 ∷ drop 1 ts → Begins ts If
  no·start : Begins ts Stop

begins : (ts : List Token) → Begins ts (statement_start_l ts)
begins [] = no·start
begins (Number x ∷ ts) = no·start
begins (Symbol n ∷ ts) = a·name n refl
begins (Whole w ∷ ts) = no·start
begins (Sign s ∷ ts) = go (eqb s 6) refl (eqb s 7) refl
  where
    go : (p : Bool) → eqb s 6 ≡ p → (q : Bool) → eqb s 7 ≡ q → Begins (Sign s ∷ ts) (cond p Output (cond q If Stop))
    go true e q f = an·output (ap (λ x. Sign x ∷ ts) (eqb-true s 6 e))
    go false e true f = an·if (ap (λ x. Sign x ∷ ts) (eqb-true s 7 f))
    go false e false f = no·start

-- a declaration's first tokens
data Leads (ts : List Token) : DeclarationStart → Type 0 where
  a·kind : {k : ℕ} {ks : List Token} → Kinds k ks → ts ≡ ks ++ drop 1 ts → Leads ts (Kind k)
  an·import : ts ≡ Sign 5 ∷ drop 1 ts → Leads ts Imports
  no·lead : Leads ts No

leads : (ts : List Token) → Leads ts (declaration_start_l ts)
leads [] = no·lead
leads (Number x ∷ ts) = no·lead
leads (Symbol n ∷ ts) = no·lead
leads (Whole w ∷ ts) = no·lead
leads (Sign s ∷ ts) = go (eqb s 2) refl (eqb s 3) refl (eqb s 4) refl (eqb s 5) refl
  where
    go : (p : Bool) → eqb s 2 ≡ p → (q : Bool) → eqb s 3 ≡ q → (r : Bool) → eqb s 4 ≡ r → (u : Bool) → eqb s 5 ≡ u
        → Leads (Sign s ∷ ts) (cond p (Kind 2) (cond q (Kind 3) (cond r (Kind 4) (cond u Imports No))))
    go true e q f r g u h = a·kind ivar (ap (λ x. Sign x ∷ ts) (eqb-true s 2 e))
    go false e true f r g u h = a·kind ksig (ap (λ x. Sign x ∷ ts) (eqb-true s 3 f))
    go false e false f true g u h = a·kind asig (ap (λ x. Sign x ∷ ts) (eqb-true s 4 g))
    go false e false f false g true h = an·import (ap (λ x. Sign x ∷ ts) (eqb-true s 5 h))
    go false e false f false g false h = no·lead

-- ---- statements

-- an expression between some tokens
abbrev Between : ℕ → List Token → Expr → List Token → List Token → Type 0
Between s upto e p r = (us : List Token) × IsExpr e us × (p ++ r ≡ Sign s ∷ (us ++ (upto ++ r)))

set_to-sound : (n : ℕ) (ts : List Token) → All (Reads (Between 21 (Sign 20 ∷ [])) (λ e. compile e ++ ins_arg store_op n ∷ []) ts) (set_to n ts)
set_to-sound n ts =
    All-sign 21 ts _ (λ p e.
    All-read _ (expr-sound 0 p) (λ a u q d h.
    All-sign 20 q _ (λ r f. read (reads a (Sign 21 ∷ (u ++ Sign 20 ∷ [])) (u, d.0, simp append_assoc) (rw (e, h, f) (simp append_assoc)) refl))))

bracketed-sound : (s o : ℕ) (ts : List Token) → All (Reads (Between 15 (Sign 16 ∷ Sign s ∷ [])) (λ e. compile e ++ ins o ∷ []) ts) (bracketed s o ts)
bracketed-sound s o ts =
    All-sign 15 ts _ (λ p e.
    All-read _ (expr-sound 0 p) (λ a u q d h.
    All-sign 16 q _ (λ r f.
    All-sign s r _ (λ v g. read (reads a (Sign 15 ∷ (u ++ Sign 16 ∷ Sign s ∷ [])) (u, d.0, simp append_assoc) (rw (e, h, f, g) (simp append_assoc)) refl)))))

close-sound : (o : ℕ) (ts : List Token) → All (λ c r. (ts ≡ Sign 18 ∷ r) × (c ≡ ins o ∷ [])) (close o ts)
close-sound o ts = All-sign 18 ts _ (λ r e. read (e, refl))

abbrev pub Block : List Token → List Ins → List Token → Type 0
Block = Reads (λ t p r. Stmts t p) code

-- what follows the block of an if: nothing, or else and a block
abbrev Other : Statements → List Token → List Token → Type 0
Other b p r = (e : Expr) (xs : List Token) (a : Statements) (ys : List Token) (t : Statements) (us : List Token) → IsExpr e xs → Stmts a ys → Stmts t us
    → Stmts (branch e a b t) (Sign 7 ∷ Sign 15 ∷ (xs ++ Sign 16 ∷ Sign 17 ∷ (ys ++ Sign 18 ∷ (p ++ us))))

-- an if, but for what follows it
abbrev Branch : Expr × Statements × Statements → List Token → List Token → Type 0
Branch (e, a, b) p r = (t : Statements) (us : List Token) → Stmts t us → Stmts (branch e a b t) (Sign 7 ∷ (p ++ us))

abbrev branch·code : Expr × Statements × Statements → List Ins
branch·code (e, a, b) = (compile e ++ ins if_op ∷ []) ++ (code a ++ ins else_op ∷ (code b ++ ins end_op ∷ []))

module _ (B : List Token → Res) (H : (ts : List Token) → All (Block ts) (B ts)) where
  otherwise-sound : (ts : List Token) → All (Reads Other (λ b. code b ++ ins end_op ∷ []) ts) (otherwise B ts)
  unfolding code
  otherwise-sound ts =
      All-if 8 ts _ _ (λ p e.
      All-sign 17 p _ (λ q f.
      All-read (close end_op) (H q) (λ b u r d h.
      All-weaken (close-sound end_op r) (λ c v g.
      reads b (Sign 8 ∷ Sign 17 ∷ (u ++ Sign 18 ∷ [])) (λ _ _ _ _ _ _ x y z. rw append_assoc (either x y d z)) (rw (e, f, h, g.0) (simp append_assoc)) (rw g.1)))))
      (read (reads done [] (λ _ _ _ _ _ _ x y z. when x y z) refl refl))

  branches-sound : (ts : List Token) → All (Reads Branch branch·code ts) (branches B ts)
  branches-sound ts =
      All-read _ (bracketed-sound 17 if_op ts) (λ e p q d h.
      All-read _ (H q) (λ a v r f i.
      All-seq _ (close-sound else_op r) (λ c w g.
      All-weaken (otherwise-sound w) (λ o x k.
      let (u, y, z) = d in
      reads (e, a, k.tree) (Sign 15 ∷ (u ++ Sign 16 ∷ Sign 17 ∷ (v ++ Sign 18 ∷ k.pre))) (λ t us s. simp append_assoc (k.derives e u a v t us y f s))
      (rw (h, z, i, g.0, k.eq) (simp append_assoc)) (rw (g.1, k.code))))))

  by_start-sound : (a : StatementStart) (ts : List Token) → Begins ts a → All (Block ts) (by_statement_start B a ts)
  unfolding code
  by_start-sound (Name n) ts (a·name m e) =
      All-read B (set_to-sound n (drop 1 ts)) (λ a p r d h. All-weaken (H r) (λ c q g.
      let (u, y, z) = d in
      reads (assign n a g.tree) (Symbol n ∷ Sign 21 ∷ (u ++ Sign 20 ∷ g.pre)) (set n y g.derives) (rw (e, h, z, g.eq) (simp append_assoc))
      (rw g.code (simp append_assoc))))
  by_start-sound Output ts (an·output e) =
      All-read B (bracketed-sound 20 output_op (drop 1 ts)) (λ a p r d h. All-weaken (H r) (λ c q g.
      let (u, y, z) = d in
      reads (output a g.tree) (Sign 6 ∷ Sign 15 ∷ (u ++ Sign 16 ∷ Sign 20 ∷ g.pre)) (out y g.derives) (rw (e, h, z, g.eq) (simp append_assoc))
      (rw g.code (simp append_assoc))))
  by_start-sound If ts (an·if e) =
      All-read B (branches-sound (drop 1 ts)) (λ a p r d h. All-weaken (H r) (λ c q g.
      reads _ _ (d g.tree g.pre g.derives) (rw (e, h, g.eq) (simp append_assoc)) (rw g.code (simp append_assoc))))
  by_start-sound Stop ts no·start = read (reads done [] none refl refl)

pub statements-sound : (ts : List Token) → All (Block ts) (statements ts)
statements-sound ts = whole-all step_statements Block (λ S H us. by_start-sound S H (statement_start_l us) us (begins us)) ts

-- ---- names and declarations

name-sound : (o : ℕ) (ts : List Token) → All (Reads (λ n p r. p ≡ Symbol n ∷ []) (λ n. ins_arg o n ∷ []) ts) (name o ts)
name-sound o [] = unread
name-sound o (Number x ∷ ts) = unread
name-sound o (Symbol n ∷ ts) = read (reads n _ refl refl refl)
name-sound o (Whole w ∷ ts) = unread
name-sound o (Sign s ∷ ts) = unread

names-sound : (k : ℕ) (ts : List Token) → All (Reads (λ ns p r. Names ns p) (declare k) ts) (names k ts)
unfolding declare
names-sound k ts = whole-all (step_names k) (Reads (λ ns p r. Names ns p) (declare k)) (λ S H us.
    All-read _ (name-sound k us) (λ n p r z h.
    All-if 19 r _ _ (λ q e. All-weaken (H q) (λ d v g. reads (n ∷ g.tree) _ (more n g.derives) (rw (h, z, e, g.eq)) (rw g.code)))
    (read (reads (n ∷ []) _ (one n) (rw (h, z)) refl)))) ts

listed-sound : (k : ℕ) (ts : List Token) → All (Reads (λ ns p r. (us : List Token) × Names ns us × (p ≡ us ++ Sign 20 ∷ [])) (declare k) ts) (listed k ts)
listed-sound k ts = All-read _ (names-sound k ts) (λ ns p r d h. All-weaken (signed 20 r) (λ c q g.
    reads ns _ (p, d, refl) (rw (h, g.1) (simp append_assoc)) (rw g.0 (append-nil (declare k ns)))))

abbrev pub Declared : List Token → List Ins → List Token → Type 0
Declared = Reads (λ ds p r. Decls ds p) declared

module _ (D : List Token → Res) (H : (ts : List Token) → All (Declared ts) (D ts)) where
  listed-declared : (k : ℕ) (ks ts us : List Token) → ts ≡ ks ++ us → Kinds k ks → All (Declared ts) (seq (listed k us) D)
  unfolding declared
  listed-declared k ks ts us e K = All-read D (listed-sound k us) (λ ns p r d h. All-weaken (H r) (λ c q g.
      let (u, N, z) = d in
      reads (record { kind = k; names = ns } ∷ g.tree) _ (some·decls K N g.derives) (rw (e, h, z, g.eq) (simp append_assoc)) (rw g.code)))

  by_lead-sound : (a : DeclarationStart) (ts : List Token) → Leads ts a → All (Declared ts) (by_declaration_start D a ts)
  unfolding declared
  by_lead-sound (Kind k) ts (a·kind {ks = ks} K e) = listed-declared k ks ts (drop 1 ts) e K
  by_lead-sound Imports ts (an·import e) = All-sign 3 (drop 1 ts) _ (λ p f. listed-declared imports_kind (Sign 5 ∷ Sign 3 ∷ []) ts p (rw (e, f)) imports)
  by_lead-sound No ts no·lead = read (reads [] [] no·decls refl refl)

pub declarations-sound : (ts : List Token) → All (Declared ts) (declarations ts)
declarations-sound ts = whole-all step_declarations Declared (λ S H us. by_lead-sound S H (declaration_start_l us) us (leads us)) ts

-- ---- instruments

fields-sound : (ts : List Token) → All (Reads (λ fs p r. Fields fs p) (declare field_kind) ts) (fields ts)
unfolding declare
fields-sound ts = All-cond (sign_l ts 16) _ _ (λ e. read (reads [] [] no·fields refl refl)) (λ e.
    All-weaken (names-sound field_kind ts) (λ c r h. reads h.tree h.pre (some·fields h.derives) h.eq h.code))

abbrev Header : ℕ × List ℕ → List Token → List Token → Type 0
Header (n, fs) p r = (us : List Token) × Fields fs us × (p ++ r ≡ Symbol n ∷ Sign 15 ∷ (us ++ Sign 16 ∷ r))

header-sound : (ts : List Token) → All (Reads Header (λ x. ins_arg instr_op x.0 ∷ declare field_kind x.1) ts) (header ts)
header-sound ts =
    All-read _ (name-sound instr_op ts) (λ n p q z h.
    All-sign 15 q _ (λ r e.
    All-read _ (fields-sound r) (λ fs u v F i.
    All-weaken (signed 16 v) (λ c w g. reads (n, fs) (Symbol n ∷ Sign 15 ∷ (u ++ Sign 16 ∷ [])) (u, F, simp append_assoc)
    (rw (h, z, e, i, g.1) (simp append_assoc)) (rw (g.0, append-nil (declare field_kind fs)))))))

abbrev Body : List Declaration × Statements → List Token → List Token → Type 0
Body (ds, b) p r = (us : List Token) × (vs : List Token) × Decls ds us × Stmts b vs × (p ≡ Sign 17 ∷ (us ++ (vs ++ Sign 18 ∷ [])))

body-sound : (ts : List Token) → All (Reads Body (λ x. declared x.0 ++ code x.1) ts) (body ts)
body-sound ts =
    All-sign 17 ts _ (λ p e.
    All-read _ (declarations-sound p) (λ ds u q D h.
    All-read _ (statements-sound q) (λ b v r S i.
    All-weaken (signed 18 r) (λ c w g. reads (ds, b) _ (u, v, D, S, refl) (rw (e, h, i, g.1) (simp append_assoc)) (rw (g.0, append-nil (code b)))))))

abbrev Instrumental : List Token → List Ins → List Token → Type 0
Instrumental = Reads (λ i p r. Instr i p) code·of

instrument-sound : (ts : List Token) → All (Instrumental ts) (instrument ts)
instrument-sound ts =
    All-sign 1 ts _ (λ p e.
    All-read _ (header-sound p) (λ x u q d h.
    All-weaken (body-sound q) (λ c r g.
    let (us, F, z) = d in
    let (vs, ws, D, S, y) = g.derives in
    reads (record { name = x.0; fields = x.1; declarations = g.tree.0; body = g.tree.1 }) _ (is x.0 F D S)
    (rw (e, h, z, g.eq, y) (simp append_assoc)) (rw g.code))))

pub record Orchestrated (ts : List Token) (c : List Ins) (r : List Token) : Type 0 where
  pub tree : List Instrument
  pub nothing_left : r ≡ []
  pub code : c ≡ program tree
  pub derives : Orchestra tree ts

-- what is read is an orchestra of the grammar, with nothing after it, and its program
pub sound : (ts : List Token) → All (Orchestrated ts) (orchestra ts)
unfolding program
sound ts = whole-all step_instruments Orchestrated (λ S H us. All-read _ (instrument-sound us) (λ i p r d h. go S H us i p r d h)) ts
  where
    go : (S : List Token → Res) → ((us : List Token) → All (Orchestrated us) (S us)) → (us : List Token) (i : Instrument) (p r : List Token) → Instr i p → us ≡ p ++ r
        → All (λ d q. Orchestrated us (code·of i ++ d) q) (cond (nothing r) (ok [] []) (S r))
    go S H us i p [] d h = read (record { tree = i ∷ []; nothing_left = refl; code = refl; derives = rw (h, append-nil p) (last d) })
    go S H us i p (t ∷ r) d h = All-weaken (H (t ∷ r)) (λ c q g.
        record { tree = i ∷ g.tree; nothing_left = g.nothing_left; code = rw g.code; derives = rw h (next d g.derives) })
