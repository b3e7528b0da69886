-- The pass over the program of a placed tree says whether the tree keeps the rate rules.
use Prim.Native.Nat.{ℕ, zero, suc, ◌+◌, ◌-◌, ◌*◌, ◌≤◌, max}
use native.Mathlib.Omega.{arith}
use mathlib.Core.Path.{◌≡◌, refl, sym, ap, ap₂, ◌∙◌}
use mathlib.Core.List.{List, [], ◌∷◌, ◌++◌, map, append_assoc}
use mathlib.Core.Bool.{Bool, true, false, ◌&&◌, cond, and_assoc}
use lib.ListN.{length}
use lib.Dec.{ltb, eqb}
use borrow.Author.Tests.{le-leb, lt-ltb}
use Rattle.base_laws.proofs.Choice.{both_true}
use Rattle.orchestra_syntax.specs.Tree.{Expr, number, name, unary, binary, choose, Statements, done, assign, output, branch, Instrument}
use Rattle.orchestra_syntax.specs.inside.Program.{Ins, ins, ins_arg, op_class_of, choose_op, if_op, else_op, end_op, instr_op, compile, code, program, unary_op, binary_op}
use Rattle.orchestra_syntax.specs.Names.{Named, names_of, obeys_name_rules, all_obey_name_rules, name_rules}
use Rattle.orchestra_syntax.specs.inside.Placed.{place_from, put_in, put, placed, speed, speed_of_kind, rate_of, rate, obeys_rate_rules, rate_rules}
use Rattle.orchestra_syntax.specs.Rates.{Rate, i_rate, k_rate, a_rate, rate_of_kind}
use Rattle.orchestra_syntax.specs.declared.OpClass.{OpClass}
use Rattle.orchestra_syntax.specs.declared.OpClass.TheVariants.{Value, Declare, Instr}
use Rattle.orchestra_rate_rules.specs.Change.{rates, entered, rates_valid, rates_after}
use Rattle.orchestra_rules.specs.Rating.{rates_from, rates_pass}
use Rattle.orchestra_syntax.proofs.Operations.{unary-value, binary-value}
use Rattle.orchestra_rules.specs.Formed.{FormedAll, ops_of, args_of}
use Rattle.orchestra_rate_rules.specs.declared.Rates.{Rates}
use Rattle.orchestra_rules.proofs.Declaring.{declare_all, Kinds, instrument-is, kinds-of}
use Rattle.orchestra_rules.proofs.PlacesLaw.{at-most-16, each-kept}

abbrev on : List Ins → Rates → Bool
on c q = rates_from (ops_of c) (args_of c) q

rates-next : (i : Ins) (c : List Ins) (q : Rates) (a : OpClass) → op_class_of i.op ≡ a → on (i ∷ c) q ≡ (rates_valid a i.arg q && on c (rates_after a i.arg q))
unfolding rates_from
rates-next i c q a e = ap (λ (x : OpClass). rates_valid x i.arg q && on c (rates_after x i.arg q)) e

rates-op : (o : ℕ) (c : List Ins) (q : Rates) → op_class_of o ≡ Value → on (ins o ∷ c) q ≡ on c q
rates-op o c q e = rates-next (ins o) c q Value e

-- ---- an expression has the rate of its fastest part

module _ (k a : ℕ) where
  abbrev at : List Ins → ℕ → Bool
  at c m = on c (rates m k a)

  rates-expr : (e : Expr) (c : List Ins) (m : ℕ) → at (compile e ++ c) m ≡ at c (max m (rate e))
  unfolding compile rate rates_from
  rates-expr (number x) c m = let z : m ≡ max m 0 = omega arith in ap (at c) z
  rates-expr (name n) c m = refl
  rates-expr (unary o e) c m = simp (append_assoc, rates-expr e, rates-op (unary_op o) c (rates (max m (rate e)) k a) (unary-value o))
  rates-expr (binary o x y) c m =
      let z : max (max m (rate x)) (rate y) ≡ max m (max (rate x) (rate y)) = omega arith in
      simp (append_assoc, rates-expr x, rates-expr y, rates-op (binary_op o) c (rates (max (max m (rate x)) (rate y)) k a) (binary-value o)) (ap (at c) z)
  rates-expr (choose t x y) c m =
      let z : max (max (max m (rate t)) (rate x)) (rate y) ≡ max m (max (rate t) (max (rate x) (rate y))) = omega arith in
      simp (append_assoc, rates-expr t, rates-expr x, rates-expr y, rates-op choose_op c (rates (max (max (max m (rate t)) (rate x)) (rate y)) k a) refl) (ap (at c) z)

  rates-whole : (e : Expr) (c : List Ins) → at (compile e ++ c) 0 ≡ at c (rate e)
  rates-whole e c = let z : max 0 (rate e) ≡ rate e = omega arith in rates-expr e c 0 ∙ ap (at c) z

-- ---- ifs inside each other

-- the fastest guard of k and a ifs open with guards of rate k or faster, and of rate a
abbrev around : ℕ → ℕ → ℕ
around k a = cond (ltb 0 a) 2 (cond (ltb 0 k) 1 0)

-- an if whose fastest guard is m: inside it m is the fastest, and after it all is as before
record Inside (k a m : ℕ) : Type 0 where
  kin : ℕ
  ain : ℕ
  opens : (f : ℕ) → entered m (rates f k a) ≡ rates 0 kin ain
  least : ain ≤ kin
  guards : around kin ain ≡ m
  back-k : kin - 1 ≡ k
  back_a : ain - 1 ≡ a

inside : (k a m : ℕ) → a ≤ k → around k a ≤ m → m ≤ 2 → Inside k a m
inside zero zero zero le g h = record { kin = 0; ain = 0; opens = λ x. refl; least = omega arith; guards = refl; back-k = refl; back_a = refl }
inside (suc k) zero zero le g h = absurd (omega (arith, rw (lt-ltb 0 (suc k) (omega arith)) at g))
inside k (suc a) zero le g h = absurd (omega (arith, rw (lt-ltb 0 (suc a) (omega arith)) at g))
inside k zero (suc zero) le g h = record
    { kin = k + 1; ain = 0; opens = λ x. refl; least = omega arith; guards = rw (lt-ltb 0 (k + 1) (omega arith)); back-k = omega arith; back_a = refl }
inside k (suc a) (suc zero) le g h = absurd (omega (arith, rw (lt-ltb 0 (suc a) (omega arith)) at g))
inside k a (suc (suc zero)) le g h = record
    { kin = k + 1; ain = a + 1; opens = λ x. refl; least = omega arith; guards = rw (lt-ltb 0 (a + 1) (omega arith)); back-k = omega arith; back_a = omega arith }
inside k a (suc (suc (suc m))) le g h = absurd (omega arith)

around-low : (k a : ℕ) → around k a ≤ 2
around-low zero zero = omega arith
around-low (suc k) zero = rw (lt-ltb 0 (suc k) (omega arith)) (omega arith)
around-low k (suc a) = rw (lt-ltb 0 (suc a) (omega arith)) (omega arith)

-- no guard is faster than a
unfoldable Slow : Statements → Type 0
Slow done = Unit {0}
Slow (assign n e r) = Slow r
Slow (output e r) = Slow r
Slow (branch e a b r) = (rate e ≤ 2) × (Slow a × (Slow b × Slow r))

-- ---- statements

rates-code : (t : Statements) (c : List Ins) (k a : ℕ) → Slow t → a ≤ k → on (code t ++ c) (rates 0 k a) ≡ (obeys_rate_rules (around k a) t && on c (rates 0 k a))
unfolding code obeys_rate_rules Slow rates_from
rates-code done c k a s le = refl
rates-code (assign n e t) c k a s le = simp (append_assoc, rates-whole k a e, rates-code t c k a s le, and_assoc)
rates-code (output e t) c k a s le = simp (append_assoc, rates-whole k a e, rates-code t c k a s le, le-leb (around k a) 2 (around-low k a))
rates-code (branch e x y t) c k a s le =
    let C = code t ++ c in
    let B = code y ++ ins end_op ∷ C in
    let A = code x ++ ins else_op ∷ B in
    let m = max (around k a) (rate e) in
    let low = around-low k a in
    let r = s.0 in
    let i = inside k a m le (omega arith) (omega arith) in
    let u = obeys_rate_rules m x in
    let v = obeys_rate_rules m y in
    let w = obeys_rate_rules (around k a) t in
    simp append_assoc
    (rates-whole k a e (ins if_op ∷ A) ∙ ap (on A) (i.opens (rate e)) ∙ rates-code x (ins else_op ∷ B) i.kin i.ain s.1.0 i.least
    ∙ ap₂ (λ (g : ℕ) b. obeys_rate_rules g x && b) i.guards
    (rates-code y (ins end_op ∷ C) i.kin i.ain s.1.1.0 i.least
    ∙ ap₂ (λ (g : ℕ) b. obeys_rate_rules g y && b) i.guards
    (ap₂ (λ (f g : ℕ). on C (rates 0 f g)) i.back-k i.back_a ∙ rates-code t c k a s.1.1.1 le))
    ∙ sym (and_assoc u v (w && on c (rates 0 k a))) ∙ sym (and_assoc (u && v) w (on c (rates 0 k a))))

-- ---- placed trees

rate-of-kind-low : (k : ℕ) → speed_of_kind k ≤ 2
rate-of-kind-low k = go (rate_of_kind k)
  where
    go : (r : Rate) → speed r ≤ 2
    go i_rate = omega arith
    go k_rate = omega arith
    go a_rate = omega arith

place-low : (ms : List Named) (n p : ℕ) → p + length ms ≤ 16 → rate_of (place_from p n ms) ≤ 2
unfolding place_from
place-low [] n p h = omega arith
place-low (m ∷ ms) n p h = go (eqb m.name n) (place-low ms n (suc p) (omega arith))
  where
    go : (b : Bool) → rate_of (place_from (suc p) n ms) ≤ 2 → rate_of (cond b (16 * speed_of_kind m.kind + p) (place_from (suc p) n ms)) ≤ 2
    go true ih = let k = rate-of-kind-low m.kind in omega (arith, k)
    go false ih = ih

module _ (ms : List Named) (h : length ms ≤ 16) where
  rate-low : (e : Expr) → rate (put_in ms e) ≤ 2
  unfolding rate put_in
  rate-low (number x) = omega arith
  rate-low (name n) = place-low ms n 0 (omega arith)
  rate-low (unary o e) = rate-low e
  rate-low (binary o a b) = let x = rate-low a in let y = rate-low b in omega arith
  rate-low (choose t a b) = let z = rate-low t in let x = rate-low a in let y = rate-low b in omega arith

  slow-put : (t : Statements) → Slow (put ms t)
  unfolding put Slow
  slow-put done = tt
  slow-put (assign n e t) = slow-put t
  slow-put (output e t) = slow-put t
  slow-put (branch e a b t) = (rate-low e, (slow-put a, (slow-put b, slow-put t)))

rates-declare : (ns : List Named) (c : List Ins) (q : Rates) → Kinds ns → on (declare_all ns ++ c) q ≡ on c q
unfolding Kinds
rates-declare [] c q k = refl
rates-declare (n ∷ ns) c q k = rates-next (ins_arg n.kind n.name) (declare_all ns ++ c) q Declare k.0 ∙ rates-declare ns c q k.1

rates-program : (is : List Instrument) → FormedAll is → all_obey_name_rules is ≡ true → on (program (map placed is)) (rates 0 0 0) ≡ rate_rules is
unfolding program FormedAll all_obey_name_rules rate_rules rates_from
rates-program [] f e = refl
rates-program (i ∷ is) f e =
    let ms = names_of i in
    let r = program (map placed is) in
    let (p, q) = both_true (obeys_name_rules i) (all_obey_name_rules is) e in
    ap (λ l. on l (rates 0 0 0)) (instrument-is (placed i) r)
    ∙ rates-next (ins_arg instr_op i.name) (declare_all ms ++ (code (put ms i.body) ++ r)) (rates 0 0 0) Instr refl
    ∙ rates-declare ms (code (put ms i.body) ++ r) (rates 0 0 0) (kinds-of i f.0)
    ∙ rates-code (put ms i.body) r 0 0 (slow-put ms (at-most-16 i p) i.body) (omega arith)
    ∙ ap (λ b. obeys_rate_rules 0 (put ms i.body) && b) (rates-program is f.1 q)

-- the pass over a placed tree's program is the tree's rate rules
pub rates-law : (is : List Instrument) → FormedAll is → name_rules is ≡ true
    → rates_pass (ops_of (program (map placed is))) (args_of (program (map placed is))) ≡ rate_rules is
rates-law is f e = rates-program is f (each-kept is e)
