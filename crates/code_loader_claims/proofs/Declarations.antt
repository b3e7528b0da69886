-- What the loader reads of an instrument's declarations is what the tree declares.
use Prim.Native.Nat.{ℕ, zero, suc, ◌≤◌}
use native.Mathlib.Omega.{arith}
use mathlib.Core.Path.{◌≡◌, refl, sym, ap, ◌∙◌}
use mathlib.Core.Bool.{true, false, true≢false}
use mathlib.Core.List.{List, [], ◌∷◌, ◌++◌, map, append_assoc, append-nil}
use lib.ListN.{length, take, replicate}
use lib.Dec.{eqb}
use borrow.Author.Tests.{ne_eqb}
use Rattle.base_laws.proofs.Lists.{map-append}
use Rattle.orchestra_tokens.specs.declared.Token.{Token}
use Rattle.orchestra_syntax.specs.Tree.{Expr, number, name, unary, binary, choose, Statements, done, assign, output, branch, Declaration, Instrument, field_kind}
use Rattle.orchestra_syntax.specs.Names.{named, named_by, names_of}
use Rattle.orchestra_syntax.specs.inside.Program.{Ins, compile, code, declare, declared, program}
use Rattle.orchestra_syntax.specs.Grammar as grammar
use Rattle.orchestra_syntax.specs.Grammar.{Kinds, Decls, Instr, Orchestra}
use Rattle.orchestra_rules.specs.Formed.{ops_of, args_of}
use Rattle.voices_resolved.specs.Tree.{import_of, imports_of}
use Rattle.code_operations.specs.Words.{note_places}
use Rattle.code_loader.specs.Loading.{laid_in, declares, no_import, field_count, imports_at}

-- ---- code that declares nothing at its start

data Starts : List Ins → Type 0 where
  first : (i : Ins) (c : List Ins) → declares i.op ≡ false → Starts (i ∷ c)

pub data Ends : List Ins → Type 0 where
  nil : Ends []
  cons : (i : Ins) (c : List Ins) → declares i.op ≡ false → Ends (i ∷ c)

starts-append : {c : List Ins} (d : List Ins) → Starts c → Starts (c ++ d)
starts-append d (first i c e) = first i (c ++ d) e

starts-ends : {c : List Ins} → Starts c → Ends c
starts-ends (first i c e) = cons i c e

expr-starts : (e : Expr) → Starts (compile e)
unfolding compile
expr-starts (number x) = first _ _ refl
expr-starts (name n) = first _ _ refl
expr-starts (unary o e) = starts-append _ (expr-starts e)
expr-starts (binary o a b) = starts-append _ (starts-append _ (expr-starts a))
expr-starts (choose c a b) = starts-append _ (starts-append _ (starts-append _ (expr-starts c)))

code-ends : (t : Statements) (d : List Ins) → Ends d → Ends (code t ++ d)
unfolding code
code-ends done d q = q
code-ends (assign n e r) d q = starts-ends (starts-append d (starts-append _ (expr-starts e)))
code-ends (output e r) d q = starts-ends (starts-append d (starts-append _ (expr-starts e)))
code-ends (branch e a b r) d q = starts-ends (starts-append d (starts-append _ (expr-starts e)))

program-ends : (is : List Instrument) → Ends (program is)
unfolding program
program-ends [] = nil
program-ends (i ∷ is) = cons _ _ refl

-- ---- kinds of declarations, none of which is a field's

pub data Known : List Declaration → Type 0 where
  nil : Known []
  cons : (d : Declaration) {ds : List Declaration} → declares d.kind ≡ true → eqb d.kind field_kind ≡ false → Known ds → Known (d ∷ ds)

kind-known : {k : ℕ} {ts : List Token} → Kinds k ts → (declares k ≡ true) × (eqb k field_kind ≡ false)
kind-known grammar.ivar = (refl, refl)
kind-known grammar.ksig = (refl, refl)
kind-known grammar.asig = (refl, refl)
kind-known grammar.imports = (refl, refl)

decls-known : {ds : List Declaration} {ts : List Token} → Decls ds ts → Known ds
decls-known grammar.none = nil
decls-known (grammar.some k ns d) = cons _ (kind-known k).0 (kind-known k).1 (decls-known d)

instr-known : {i : Instrument} {ts : List Token} → Instr i ts → Known i.declarations
instr-known (grammar.is n f d b) = decls-known d

pub data AllKnown : List Instrument → Type 0 where
  nil : AllKnown []
  cons : (i : Instrument) {is : List Instrument} → Known i.declarations → AllKnown is → AllKnown (i ∷ is)

pub all_known : {is : List Instrument} {ts : List Token} → Orchestra is ts → AllKnown is
all_known (grammar.last i) = cons _ (instr-known i) nil
all_known (grammar.next i o) = cons _ (instr-known i) (all_known o)

-- ---- the fields

ends-fields : {c : List Ins} → Ends c → field_count (ops_of c) ≡ 0
unfolding field_count
ends-fields nil = refl
ends-fields (cons i c e) = rw (ne_eqb i.op 0 (λ h. true≢false (sym (ap declares h) ∙ e)))

names-fields : (k : ℕ) → eqb k field_kind ≡ false → (ns : List ℕ) (c : List Ins) → field_count (ops_of c) ≡ 0 → field_count (ops_of (declare k ns ++ c)) ≡ 0
unfolding field_count declare
names-fields k e [] c h = h
names-fields k e (n ∷ ns) c h = rw e refl

declared-fields : {ds : List Declaration} → Known ds → (c : List Ins) → field_count (ops_of c) ≡ 0 → field_count (ops_of (declared ds ++ c)) ≡ 0
unfolding declared
declared-fields nil c h = h
declared-fields (cons d {ds = ds} e f k) c h =
    rw append_assoc (names-fields d.kind f d.names (declared ds ++ c) (declared-fields k c h))

own-fields : (fs : List ℕ) (c : List Ins) → field_count (ops_of c) ≡ 0 → field_count (ops_of (declare field_kind fs ++ c)) ≡ length fs
unfolding field_count declare
own-fields [] c h = h
own-fields (f ∷ fs) c h = ap suc (own-fields fs c h)

-- ---- the imports

ends-imports : {c : List Ins} → Ends c → imports_at (ops_of c) (args_of c) ≡ []
unfolding imports_at
ends-imports nil = refl
ends-imports (cons i c e) = rw e refl

names-imports : (k : ℕ) → declares k ≡ true → (ns : List ℕ) (c : List Ins)
    → imports_at (ops_of (declare k ns ++ c)) (args_of (declare k ns ++ c)) ≡ map import_of (named k ns) ++ imports_at (ops_of c) (args_of c)
unfolding imports_at declare named
names-imports k e [] c = refl
names-imports k e (n ∷ ns) c = rw e (ap (λ l. import_of (record { name = n; kind = k }) ∷ l) (names-imports k e ns c))

declared-imports : {ds : List Declaration} → Known ds → (c : List Ins)
    → imports_at (ops_of (declared ds ++ c)) (args_of (declared ds ++ c)) ≡ map import_of (named_by ds) ++ imports_at (ops_of c) (args_of c)
unfolding declared named_by
declared-imports nil c = refl
declared-imports (cons d {ds = ds} e f k) c =
    rw (
      append_assoc,
      names-imports d.kind e d.names (declared ds ++ c),
      declared-imports k c,
      map-append import_of (named d.kind d.names) (named_by ds),
      append_assoc,
    )

-- ---- an instrument, with a program behind it

-- what follows its first instruction
abbrev pub rest_of : Instrument → List Ins
rest_of i = declare field_kind i.fields ++ (declared i.declarations ++ code i.body)

module _ (i : Instrument) (k : Known i.declarations) (behind : List Instrument) where
  abbrev body : List Ins
  body = code i.body ++ program behind

  parted : rest_of i ++ program behind ≡ declare field_kind i.fields ++ (declared i.declarations ++ body)
  parted = rw (append_assoc, append_assoc)

  ends : Ends body
  ends = code-ends i.body (program behind) (program-ends behind)

  pub fields-are : field_count (ops_of (rest_of i ++ program behind)) ≡ length i.fields
  fields-are = rw parted (own-fields i.fields (declared i.declarations ++ body) (declared-fields k body (ends-fields ends)))

  pub imports-are : imports_at (ops_of (rest_of i ++ program behind)) (args_of (rest_of i ++ program behind)) ≡ map import_of (names_of i)
  imports-are =
      rw (parted, names-imports field_kind refl i.fields (declared i.declarations ++ body), declared-imports k body, ends-imports ends, append-nil)
      (sym (map-append import_of (named field_kind i.fields) (named_by i.declarations)))

-- cells with one value behind a list are the first of the list and enough of that value
pub laid-take : {A : Type 0} (m k : ℕ) (d : A) (xs : List A) → m ≤ k → laid_in m d xs ≡ take m (xs ++ replicate k d)
unfolding laid_in
laid-take zero k d xs le = refl
laid-take (suc m) zero d [] le = absurd (omega arith)
laid-take (suc m) (suc k) d [] le = ap (λ l. d ∷ l) (laid-take m k d [] (omega arith))
laid-take (suc m) k d (x ∷ xs) le = ap (λ l. x ∷ l) (laid-take m k d xs (omega arith))

pub imports-laid : (i : Instrument) → laid_in note_places no_import (map import_of (names_of i)) ≡ imports_of i
unfolding imports_of
imports-laid i = laid-take note_places note_places no_import (map import_of (names_of i)) (omega arith)
