-- In the program of a tree the operation instr stands where an instrument starts, and nowhere else.
use Prim.Native.Nat.{ℕ, suc, ◌+◌, ◌≤◌}
use native.Mathlib.Omega.{arith}
use mathlib.Core.Path.{◌≡◌, refl, sym, ap, ◌∙◌}
use mathlib.Core.Bool.{true, false, ◌&&◌}
use mathlib.Core.List.{List, [], ◌∷◌, ◌++◌, map}
use lib.ListN.{length, take, length-map, length-append}
use lib.Seq.{take_all}
use lib.Dec.{eqb, leb}
use borrow.Author.Tests.{ne_eqb, leb-true}
use Rattle.base_laws.proofs.Choice.{both_true}
use Rattle.base_laws.proofs.Lists.{map-append}
use Rattle.orchestra_syntax.specs.Tree.{Expr, number, name, unary, binary, choose, Statements, done, assign, output, branch, Declaration, Instrument, field_kind}
use Rattle.orchestra_syntax.specs.Names.{name_rules, distinct, title_of, all_obey_name_rules}
use Rattle.orchestra_syntax.specs.inside.Placed.{placed}
use Rattle.orchestra_syntax.specs.inside.Program.{Ins, instr_op, op_class_of, compile, code, declare, declared, instrument, program, unary_op, binary_op}
use Rattle.orchestra_syntax.specs.declared.OpClass.TheVariants.{Value, Declare}
use Rattle.orchestra_syntax.proofs.Operations.{unary-value, binary-value}
use Rattle.orchestra_rules.specs.Formed.{FormedKinds, FormedAll, op_of, ops_of}
use Rattle.orchestra_reader.specs.inside.Compiled.{heads_from}
use Rattle.orchestra_reader.specs.inside.Reading.{starts_from}
use Rattle.orchestra_rules.proofs.PlacesLaw.{ops-stay}

-- what is a value or declares a name is not instr
value-apart : (o : ℕ) → op_class_of o ≡ Value → eqb o instr_op ≡ false
value-apart o e = ne_eqb o 1 (λ h. let y = sym e ∙ ap op_class_of h in let z : ◌≡◌ {A = ℕ} 0 1 = cc in omega arith)

declare-apart : (o : ℕ) → op_class_of o ≡ Declare → eqb o instr_op ≡ false
declare-apart o e = ne_eqb o 1 (λ h. let y = sym e ∙ ap op_class_of h in let z : ◌≡◌ {A = ℕ} 0 1 = cc in omega arith)

-- no operation is instr
data Plain : List Ins → Type 0 where
  nil : Plain []
  cons : (i : Ins) {c : List Ins} → eqb i.op instr_op ≡ false → Plain c → Plain (i ∷ c)

plain-append : {c d : List Ins} → Plain c → Plain d → Plain (c ++ d)
plain-append nil q = q
plain-append (cons i e p) q = cons i e (plain-append p q)

one : (i : Ins) → eqb i.op instr_op ≡ false → Plain (i ∷ [])
one i e = cons i e nil

expr-plain : (e : Expr) → Plain (compile e)
unfolding compile
expr-plain (number x) = one _ refl
expr-plain (name n) = one _ refl
expr-plain (unary o e) = plain-append (expr-plain e) (one _ (value-apart (unary_op o) (unary-value o)))
expr-plain (binary o a b) = plain-append (plain-append (expr-plain a) (expr-plain b)) (one _ (value-apart (binary_op o) (binary-value o)))
expr-plain (choose c a b) = plain-append (plain-append (plain-append (expr-plain c) (expr-plain a)) (expr-plain b)) (one _ refl)

code-plain : (t : Statements) → Plain (code t)
unfolding code
code-plain done = nil
code-plain (assign n e r) = plain-append (expr-plain e) (cons _ refl (code-plain r))
code-plain (output e r) = plain-append (expr-plain e) (cons _ refl (code-plain r))
code-plain (branch e a b r) =
    plain-append (expr-plain e) (cons _ refl (plain-append (code-plain a) (cons _ refl (plain-append (code-plain b) (cons _ refl (code-plain r))))))

declare-plain : (k : ℕ) → eqb k instr_op ≡ false → (ns : List ℕ) → Plain (declare k ns)
unfolding declare
declare-plain k e [] = nil
declare-plain k e (n ∷ ns) = cons _ e (declare-plain k e ns)

declared-plain : (ds : List Declaration) → FormedKinds ds → Plain (declared ds)
unfolding declared FormedKinds
declared-plain [] f = nil
declared-plain (d ∷ ds) f = plain-append (declare-plain d.kind (declare-apart d.kind f.0) d.names) (declared-plain ds f.1)

-- what follows an instrument's first instruction
abbrev rest_of : Instrument → List Ins
rest_of i = declare field_kind i.fields ++ (declared i.declarations ++ code i.body)

plain-starts : (n : ℕ) {c : List Ins} → Plain c → (os : List ℕ) → starts_from n (ops_of c ++ os) ≡ starts_from (n + length c) os
unfolding starts_from
plain-starts n nil os = ap (λ k. starts_from k os) (omega arith)
plain-starts n (cons i {c = c} e p) os = rw e (plain-starts (suc n) p os ∙ ap (λ k. starts_from k os) (omega arith))

-- placing changes no length
length-alike : (i : Instrument) → length (instrument (placed i)) ≡ length (instrument i)
unfolding program
length-alike i = omega (arith, simp length-map at (ap length (ops-stay (i ∷ []))), length-append (instrument (placed i)) [], length-append (instrument i) [])

instr-starts : (n : ℕ) (i : Instrument) → Plain (rest_of i) → (c : List Ins)
    → starts_from n (ops_of (instrument i ++ c)) ≡ n ∷ starts_from (n + length (instrument (placed i))) (ops_of c)
unfolding starts_from
instr-starts n i p c =
    ap (λ l. n ∷ starts_from (suc n) l) (map-append op_of (rest_of i) c)
    ∙ ap (λ l. n ∷ l) (plain-starts (suc n) p (ops_of c) ∙ ap (λ k. starts_from k (ops_of c)) (omega (arith, length-alike i)))

pub heads-are : (is : List Instrument) → FormedAll is → (n : ℕ) → starts_from n (ops_of (program is)) ≡ heads_from n is
unfolding program heads_from starts_from FormedAll
heads-are [] f n = refl
heads-are (i ∷ is) f n =
    let p = plain-append (declare-plain field_kind refl i.fields) (plain-append (declared-plain i.declarations f.0) (code-plain i.body)) in
    instr-starts n i p (program is) ∙ ap (λ l. n ∷ l) (heads-are is f.1 _)

pub length-heads : (n : ℕ) (is : List Instrument) → length (heads_from n is) ≡ length is
unfolding heads_from
length-heads n [] = refl
length-heads n (i ∷ is) = ap suc (length-heads (n + length (instrument (placed i))) is)

pub all-heads : (is : List Instrument) → length is ≤ 8 → take 8 (heads_from 0 is) ≡ heads_from 0 is
all-heads is le = take_all 8 (heads_from 0 is) (rw (length-heads 0 is) le)

pub at-most-8 : (is : List Instrument) → name_rules is ≡ true → length is ≤ 8
at-most-8 is e = leb-true (length is) 8 (both_true (leb (length is) 8) (distinct (map title_of is) && all_obey_name_rules is) e).0
