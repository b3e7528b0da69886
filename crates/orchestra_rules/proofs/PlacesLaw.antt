-- The pass that puts names by their places gives the program of the tree whose names are put by their places.
use Prim.Native.Nat.{ℕ, ◌+◌, ◌≤◌}
use native.Mathlib.Omega.{arith}
use mathlib.Core.Path.{◌≡◌, refl, sym, ap, ◌∙◌}
use mathlib.Core.List.{List, [], ◌∷◌, ◌++◌, map, append_assoc, append-nil, map-append}
use mathlib.Core.Bool.{true, ◌&&◌}
use lib.ListN.{length}
use lib.Dec.{leb}
use borrow.Author.Tests.{lt-ltb, leb-true}
use Rattle.base_laws.proofs.Choice.{both_true}
use Rattle.orchestra_syntax.specs.Tree.{Expr, number, name, unary, binary, choose, Statements, done, assign, output, branch, Instrument}
use Rattle.orchestra_syntax.specs.inside.Program.{Ins, ins, ins_arg, op_class_of, name_op, store_op, choose_op, compile, code, program, unary_op, binary_op}
use Rattle.orchestra_syntax.specs.Names.{Named, names_of, symbols, distinct, known, obeys_name_rules, all_obey_name_rules, title_of, name_rules}
use Rattle.orchestra_syntax.specs.inside.Placed.{place, put_in, put, placed}
use Rattle.orchestra_syntax.specs.declared.OpClass.{OpClass}
use Rattle.orchestra_syntax.specs.declared.OpClass.TheVariants.{Value, Declare}
use Rattle.orchestra_name_rules.specs.Entries.{names_after, placed_name}
use Rattle.orchestra_rules.specs.Naming.{placed_from, places_pass}
use Rattle.orchestra_syntax.proofs.Operations.{unary-value, binary-value}
use Rattle.orchestra_rules.specs.Formed.{FormedAll, arg_of, ops_of, args_of, vals_of}
use Rattle.orchestra_rules.proofs.Declaring.{declare_all, Kinds, instrument-is, kinds-of}
use Rattle.orchestra_rules.proofs.NamesLaw.{length-end}

abbrev putting : List Ins → List Named → List ℕ
putting c ms = placed_from (ops_of c) (args_of c) ms

put_next : (i : Ins) (c : List Ins) (ms : List Named) (a : OpClass) → op_class_of i.op ≡ a
    → putting (i ∷ c) ms ≡ placed_name a i.arg ms ∷ putting c (names_after a i.op i.arg ms)
unfolding placed_from
put_next i c ms a e = ap (λ (x : OpClass). placed_name x i.arg ms ∷ putting c (names_after x i.op i.arg ms)) e

put-op : (o : ℕ) (c : List Ins) (ms : List Named) → op_class_of o ≡ Value → putting (ins o ∷ c) ms ≡ 0 ∷ putting c ms
put-op o c ms e = put_next (ins o) c ms Value e

module _ (ms : List Named) where
  put-expr : (e : Expr) (c : List Ins) → putting (compile e ++ c) ms ≡ args_of (compile (put_in ms e)) ++ putting c ms
  unfolding compile put_in placed_from
  put-expr (number x) c = refl
  put-expr (name n) c = refl
  put-expr (unary o e) c = simp (append_assoc, put-expr e, put-op (unary_op o) c ms (unary-value o)) (simp (map-append arg_of, append_assoc))
  put-expr (binary o a b) c = simp (append_assoc, put-expr a, put-expr b, put-op (binary_op o) c ms (binary-value o)) (simp (map-append arg_of, append_assoc))
  put-expr (choose t a b) c = simp (append_assoc, put-expr t, put-expr a, put-expr b, put-op choose_op c ms refl) (simp (map-append arg_of, append_assoc))

  put-code : (t : Statements) (c : List Ins) → putting (code t ++ c) ms ≡ args_of (code (put ms t)) ++ putting c ms
  unfolding code put placed_from
  put-code done c = refl
  put-code (assign n e t) c = simp (append_assoc, put-expr e, put-code t) (simp (map-append arg_of, append_assoc))
  put-code (output e t) c = simp (append_assoc, put-expr e, put-code t) (simp (map-append arg_of, append_assoc))
  put-code (branch e a b t) c = simp (append_assoc, put-expr e, put-code a, put-code b, put-code t) (simp (map-append arg_of, append_assoc))

put-declare : (ns : List Named) (c : List Ins) (ms : List Named) → Kinds ns → length ms + length ns ≤ 16
    → putting (declare_all ns ++ c) ms ≡ args_of (declare_all ns) ++ putting c (ms ++ ns)
unfolding Kinds
put-declare [] c ms k le = rw (append-nil ms)
put-declare (n ∷ ns) c ms k le =
    put_next (ins_arg n.kind n.name) (declare_all ns ++ c) ms Declare k.0
    ∙ rw (lt-ltb (length ms) 16 (omega arith), put-declare ns c (ms ++ n ∷ []) k.1 (omega (arith, length-end ms n)), append_assoc ms (n ∷ []) ns)

-- an instrument that keeps the rules has at most 16 names
pub at-most-16 : (i : Instrument) → obeys_name_rules i ≡ true → length (names_of i) ≤ 16
at-most-16 i e = leb-true (length (names_of i)) 16 (both_true _ (distinct (symbols (names_of i)) && known (symbols (names_of i)) i.body) e).0

put-program : (is : List Instrument) (ms : List Named) → FormedAll is → all_obey_name_rules is ≡ true → putting (program is) ms ≡ args_of (program (map placed is))
unfolding program FormedAll all_obey_name_rules placed_from
put-program [] ms f e = refl
put-program (i ∷ is) ms f e =
    let (p, q) = both_true (obeys_name_rules i) (all_obey_name_rules is) e in
    let k = at-most-16 i p in
    ap (λ l. putting l ms) (instrument-is i (program is))
    ∙ ap (λ l. i.name ∷ l)
    (put-declare (names_of i) (code i.body ++ program is) [] (kinds-of i f.0) (omega arith)
    ∙ rw (put-code (names_of i) i.body, put-program is (names_of i) f.1 q) (simp (map-append arg_of)))
    ∙ ap args_of (sym (instrument-is (placed i) (program (map placed is))))

pub each-kept : (is : List Instrument) → name_rules is ≡ true → all_obey_name_rules is ≡ true
each-kept is e = (both_true (distinct (map title_of is)) (all_obey_name_rules is) (both_true (leb (length is) 8) (distinct (map title_of is) && all_obey_name_rules is) e).1).1

-- the names of a tree's program, those used by their places, are those of the placed tree's program
pub places-law : (is : List Instrument) → FormedAll is → name_rules is ≡ true → places_pass (ops_of (program is)) (args_of (program is)) ≡ args_of (program (map placed is))
places-law is f e = put-program is [] f (each-kept is e)

-- ---- operations and numbers stay

module _ {A : Type 0} (g : Ins → A) (same : (o a b : ℕ) → g (ins_arg o a) ≡ g (ins_arg o b)) where
  module _ (ms : List Named) where
    same-expr : (e : Expr) → map g (compile (put_in ms e)) ≡ map g (compile e)
    unfolding compile put_in
    same-expr (number x) = refl
    same-expr (name n) = ap (λ x. x ∷ []) (same name_op (place ms n) n)
    same-expr (unary o e) = simp (map-append g, same-expr e)
    same-expr (binary o a b) = simp (map-append g, same-expr a, same-expr b)
    same-expr (choose t a b) = simp (map-append g, same-expr t, same-expr a, same-expr b)

    same_code : (t : Statements) → map g (code (put ms t)) ≡ map g (code t)
    unfolding code put
    same_code done = refl
    same_code (assign n e t) = simp (map-append g, same-expr e, same store_op (place ms n) n, same_code t)
    same_code (output e t) = simp (map-append g, same-expr e, same_code t)
    same_code (branch e a b t) = simp (map-append g, same-expr e, same_code a, same_code b, same_code t)

  same-program : (is : List Instrument) → map g (program (map placed is)) ≡ map g (program is)
  unfolding program
  same-program [] = refl
  same-program (i ∷ is) = simp (map-append g, same_code (names_of i) i.body, same-program is)

pub ops-stay : (is : List Instrument) → ops_of (program (map placed is)) ≡ ops_of (program is)
ops-stay is = same-program (λ (i : Ins). i.op) (λ o a b. refl) is

pub vals-stay : (is : List Instrument) → vals_of (program (map placed is)) ≡ vals_of (program is)
vals-stay is = same-program (λ (i : Ins). i.val) (λ o a b. refl) is
