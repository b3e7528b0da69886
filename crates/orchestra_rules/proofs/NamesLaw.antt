-- The pass over the program of a tree says whether the tree keeps the name rules.
use Prim.Native.Nat.{ℕ, suc, ◌+◌, ◌≤◌}
use native.Mathlib.Omega.{arith}
use native.Mathlib.Nat.{zero-add, add-zero}
use mathlib.Core.Path.{◌≡◌, refl, ap, ◌∙◌}
use mathlib.Core.List.{List, [], ◌∷◌, ◌++◌, map, append_assoc, append-nil, map-append}
use mathlib.Core.Bool.{Bool, true, false, not, ◌&&◌, cond, and_assoc, and_comm}
use lib.ListN.{length, length-append}
use lib.Dec.{leb, ltb}
use borrow.Author.Tests.{le-leb, lt-leb, ltb-true, ltb-false}
use Rattle.base_laws.proofs.Choice.{and-swap}
use Rattle.orchestra_syntax.specs.Tree.{Expr, number, name, unary, binary, choose, Statements, done, assign, output, branch, Instrument}
use Rattle.orchestra_syntax.specs.inside.Program.{Ins, ins, ins_arg, op_class_of, choose_op, instr_op, compile, code, instrument, program, unary_op, binary_op}
use Rattle.orchestra_syntax.specs.Names.{Named, names_of, symbols, has, apart, known_in, known, obeys_name_rules, all_obey_name_rules, title_of, name_rules}
use Rattle.orchestra_syntax.specs.declared.OpClass.{OpClass}
use Rattle.orchestra_syntax.specs.declared.OpClass.TheVariants.{Value, Declare, Instr}
use Rattle.orchestra_name_rules.specs.Entries.{valid, names_after, titles_after}
use Rattle.orchestra_rules.specs.Naming.{names_from, names_pass}
use Rattle.orchestra_syntax.proofs.Operations.{unary-value, binary-value}
use Rattle.orchestra_rules.specs.Formed.{FormedKinds, FormedAll, ops_of, args_of}
use Rattle.orchestra_rules.proofs.Declaring.{declare_all, Kinds, instrument-is, kinds-of}

abbrev pub on : List Ins → List ℕ → List Named → Bool
on c ts ms = names_from (ops_of c) (args_of c) ts ms

names-next : (i : Ins) (c : List Ins) (ts : List ℕ) (ms : List Named) (a : OpClass) → op_class_of i.op ≡ a
    → on (i ∷ c) ts ms ≡ (valid a i.arg ts ms && on c (titles_after a i.arg ts) (names_after a i.op i.arg ms))
unfolding names_from
names-next i c ts ms a e = ap (λ (x : OpClass). valid x i.arg ts ms && on c (titles_after x i.arg ts) (names_after x i.op i.arg ms)) e

-- an operation without a name
names-op : (o : ℕ) (c : List Ins) (ts : List ℕ) (ms : List Named) → op_class_of o ≡ Value → on (ins o ∷ c) ts ms ≡ on c ts ms
names-op o c ts ms e = names-next (ins o) c ts ms Value e

module _ (ts : List ℕ) (ms : List Named) where
  names-expr : (e : Expr) (c : List Ins) → on (compile e ++ c) ts ms ≡ (known_in (symbols ms) e && on c ts ms)
  unfolding compile known_in names_from
  names-expr (number x) c = refl
  names-expr (name n) c = refl
  names-expr (unary o e) c = simp (append_assoc, names-expr e, names-op (unary_op o) c ts ms (unary-value o))
  names-expr (binary o a b) c = simp (append_assoc, names-expr a, names-expr b, names-op (binary_op o) c ts ms (binary-value o), and_assoc)
  names-expr (choose t a b) c = simp (append_assoc, names-expr t, names-expr a, names-expr b, names-op choose_op c ts ms refl, and_assoc)

  names-code : (t : Statements) (c : List Ins) → on (code t ++ c) ts ms ≡ (known (symbols ms) t && on c ts ms)
  unfolding code known names_from
  names-code done c = refl
  names-code (assign n e t) c = simp (append_assoc, names-expr e, names-code t, and_assoc)
  names-code (output e t) c = simp (append_assoc, names-expr e, names-code t, and_assoc)
  names-code (branch e a b t) c = simp (append_assoc, names-expr e, names-code a, names-code b, names-code t, and_assoc)

-- ---- what an instrument declares

pub length-end : {A : Type 0} (l : List A) (a : A) → length (l ++ a ∷ []) ≡ length l + 1
length-end l a = length-append l (a ∷ [])

regroup : (h l a k : Bool) → (h && ((l && a) && k)) ≡ ((l && (h && a)) && k)
regroup h l a k = simp (and_assoc, and_comm, and-swap)

-- one more name
enter : (m : Named) (ns : List Named) (c : List Ins) (ts : List ℕ) (ms : List Named) → op_class_of m.kind ≡ Declare → length ms ≤ 16
    → ((l : List Named) → length l ≤ 16 → on (declare_all ns ++ c) ts l ≡ ((leb (length l + length ns) 16 && apart (symbols l) (symbols ns)) && on c ts (l ++ ns)))
    → on (ins_arg m.kind m.name ∷ (declare_all ns ++ c)) ts ms
    ≡ ((leb (length ms + suc (length ns)) 16 && (not (has m.name (symbols ms)) && apart (symbols ms ++ m.name ∷ []) (symbols ns))) && on c ts (ms ++ m ∷ ns))
enter m ns c ts ms k le ih = names-next (ins_arg m.kind m.name) (declare_all ns ++ c) ts ms Declare k ∙ go (ltb (length ms) 16) refl
  where
    go : (b : Bool) → ltb (length ms) 16 ≡ b
        → ((b && not (has m.name (symbols ms))) && on (declare_all ns ++ c) ts (cond b (ms ++ m ∷ []) ms))
        ≡ ((leb (length ms + suc (length ns)) 16 && (not (has m.name (symbols ms)) && apart (symbols ms ++ m.name ∷ []) (symbols ns))) && on c ts (ms ++ m ∷ ns))
    go false e = rw (lt-leb (length ms + suc (length ns)) 16 (omega (arith, ltb-false (length ms) 16 e)))
    go true e =
        let lt = ltb-true (length ms) 16 e in
        let z : length (ms ++ m ∷ []) + length ns ≡ length ms + suc (length ns) = omega (arith, length-end ms m) in
        ap (λ b. not (has m.name (symbols ms)) && b)
        (ih (ms ++ m ∷ []) (omega (arith, length-end ms m)) ∙ rw (z, map-append, append_assoc))
        ∙ regroup (not (has m.name (symbols ms))) (leb (length ms + suc (length ns)) 16) (apart (symbols ms ++ m.name ∷ []) (symbols ns)) (on c ts (ms ++ m ∷ ns))

names-declare : (ns : List Named) (c : List Ins) (ts : List ℕ) (ms : List Named) → Kinds ns → length ms ≤ 16
    → on (declare_all ns ++ c) ts ms ≡ ((leb (length ms + length ns) 16 && apart (symbols ms) (symbols ns)) && on c ts (ms ++ ns))
unfolding Kinds apart
names-declare [] c ts ms k le = rw (add-zero (length ms), le-leb (length ms) 16 le, append-nil ms)
names-declare (n ∷ ns) c ts ms k le = enter n ns c ts ms k.0 le (λ l h. names-declare ns c ts l k.1 h)

-- ---- instruments

names-body : (i : Instrument) (c : List Ins) (ts : List ℕ) → FormedKinds i.declarations
    → on (declare_all (names_of i) ++ (code i.body ++ c)) ts [] ≡ (obeys_name_rules i && on c ts (names_of i))
names-body i c ts p =
    names-declare (names_of i) (code i.body ++ c) ts [] (kinds-of i p) (omega arith)
    ∙ rw (zero-add (length (names_of i)), names-code ts (names_of i) i.body c) (simp and_assoc)

regroup-all : (h l a k e : Bool) → (h && (k && (l && (a && e)))) ≡ (l && ((h && a) && (k && e)))
regroup-all h l a k e = simp (and_assoc, and_comm, and-swap)

head : (i : Instrument) (is : List Instrument) (ts : List ℕ) (ms : List Named) → FormedKinds i.declarations
    → ((l : List ℕ) (ns : List Named) → length l ≤ 8 → on (program is) l ns ≡ (leb (length l + length is) 8 && (apart l (map title_of is) && all_obey_name_rules is)))
    → on (instrument i ++ program is) ts ms
    ≡ (leb (length ts + suc (length is)) 8 && ((not (has i.name ts) && apart (ts ++ i.name ∷ []) (map title_of is)) && (obeys_name_rules i && all_obey_name_rules is)))
head i is ts ms p ih =
    ap (λ l. on l ts ms) (instrument-is i (program is))
    ∙ names-next (ins_arg instr_op i.name) (declare_all (names_of i) ++ (code i.body ++ program is)) ts ms Instr refl
    ∙ go (ltb (length ts) 8) refl
  where
    rest : List ℕ → Bool
    rest l = on (declare_all (names_of i) ++ (code i.body ++ program is)) l []

    go : (b : Bool) → ltb (length ts) 8 ≡ b
        → ((b && not (has i.name ts)) && rest (cond b (ts ++ i.name ∷ []) ts))
        ≡ (leb (length ts + suc (length is)) 8 && ((not (has i.name ts) && apart (ts ++ i.name ∷ []) (map title_of is)) && (obeys_name_rules i && all_obey_name_rules is)))
    go false e = rw (lt-leb (length ts + suc (length is)) 8 (omega (arith, ltb-false (length ts) 8 e)))
    go true e =
        let lt = ltb-true (length ts) 8 e in
        let us = ts ++ i.name ∷ [] in
        let z : length us + length is ≡ length ts + suc (length is) = omega (arith, length-end ts i.name) in
        ap (λ b. not (has i.name ts) && b)
        (names-body i (program is) us p ∙ ap (λ b. obeys_name_rules i && b) (ih us (names_of i) (omega (arith, length-end ts i.name)) ∙ rw z))
        ∙ regroup-all (not (has i.name ts)) (leb (length ts + suc (length is)) 8) (apart us (map title_of is)) (obeys_name_rules i) (all_obey_name_rules is)

names-program : (is : List Instrument) (ts : List ℕ) (ms : List Named) → FormedAll is → length ts ≤ 8
    → on (program is) ts ms ≡ (leb (length ts + length is) 8 && (apart ts (map title_of is) && all_obey_name_rules is))
unfolding program FormedAll apart all_obey_name_rules names_from
names-program [] ts ms f le = rw (add-zero (length ts), le-leb (length ts) 8 le)
names-program (i ∷ is) ts ms f le = head i is ts ms f.0 (λ l ns h. names-program is l ns f.1 h)

-- the pass over a tree's program is the tree's name rules
pub names-law : (is : List Instrument) → FormedAll is → names_pass (ops_of (program is)) (args_of (program is)) ≡ name_rules is
names-law is f = names-program is [] [] f (omega arith) ∙ rw (zero-add (length is))
