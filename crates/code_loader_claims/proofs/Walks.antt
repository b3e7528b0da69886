-- The walk over a whole program.
use Prim.Native.Nat.{ℕ, suc, ◌+◌, ◌≤◌, ◌<◌}
use native.Mathlib.Omega.{arith}
use mathlib.Core.Path.{◌≡◌, refl, sym, ap, ◌∙◌}
use mathlib.Core.List.{List, [], ◌∷◌, ◌++◌, append_assoc, append-nil}
use lib.ListN.{length, length-append}
use lib.Ieee.{Float}
use borrow.Author.Tests.{ne_eqb}
use Rattle.orchestra_syntax.specs.Tree.{Expr, number, name, unary, binary, choose, Statements, done, assign, output, branch, Declaration, Instrument, field_kind}
use Rattle.orchestra_syntax.specs.inside.Program.{unary_op, binary_op, Ins, ins, ins_arg, op_class_of, instr_op, compile, code as code_of_tree, declare, declared, instrument, program, store_op, output_op, if_op, else_op, end_op, choose_op}
use Rattle.orchestra_syntax.specs.declared.OpClass.TheVariants.{Value, Declare, Instr}
use Rattle.orchestra_syntax.proofs.Operations.{unary-value, binary-value}
use Rattle.orchestra_rules.specs.Formed.{FormedKinds, ops_of, args_of}
use Rattle.code_operations.specs.Words.{note_places}
use Rattle.code_translation.specs.Translation.{after, past, lowered}
use Rattle.code_translation.specs.Statements.{Playable}
use Rattle.code_lowering.specs.Fold.{Low, rest, lower_one, lower_all}
use Rattle.code_lowering.specs.Orchestra.{Code, code, noted, walk_from}
use Rattle.code_emitter.proofs.Lists.{emit-room}
use Rattle.code_emitter.proofs.Trims.{Ended, none, ended-append, lowered-ended}
use Rattle.code_lowering.proofs.WalkAppends.{walk-appends}
use Rattle.code_bounds.specs.Sizes.{body_at, AllPlayable, all_lowered}
use Rattle.code_bounds.proofs.Exprs.{past-length}
use Rattle.code_bounds.proofs.WholeOrchestra.{body-length}
use Rattle.code_bounds.proofs.Lengths.{lowered-length}
use Rattle.code_loader_claims.specs.Code.{KindsAll, starts_from}

-- ---- instructions that begin no instrument

unfoldable Every : (Ins → Type 0) → List Ins → Type 0
Every P [] = Unit {0}
Every P (i ∷ c) = P i × Every P c

every_append : (P : Ins → Type 0) (a b : List Ins) → Every P a → Every P b → Every P (a ++ b)
unfolding Every
every_append P [] b p q = q
every_append P (i ∷ a) b p q = (p.0, every_append P a b p.1 q)

abbrev Quiet : List Ins → Type 0
Quiet = Every (λ (i : Ins). i.op ≡ instr_op → ⊥)

abbrev quiet-append : (a b : List Ins) → Quiet a → Quiet b → Quiet (a ++ b)
quiet-append = every_append (λ (i : Ins). i.op ≡ instr_op → ⊥)

-- what is a value to the walk begins none
not_first : (o : ℕ) → op_class_of o ≡ Value → o ≡ instr_op → ⊥
not_first o h e = let z : Instr ≡ Value = sym (ap op_class_of e) ∙ h in let y : ◌≡◌ {A = ℕ} 0 1 = cc in omega arith

quiet-expr : (e : Expr) → Quiet (compile e)
unfolding Every compile
quiet-expr (number x) = (λ z. omega arith, tt)
quiet-expr (name c) = (λ z. omega arith, tt)
quiet-expr (unary o e) = quiet-append (compile e) (ins (unary_op o) ∷ []) (quiet-expr e) (not_first (unary_op o) (unary-value o), tt)
quiet-expr (binary o a b) =
    quiet-append (compile a ++ compile b) (ins (binary_op o) ∷ []) (quiet-append (compile a) (compile b) (quiet-expr a) (quiet-expr b)) (not_first (binary_op o) (binary-value o), tt)
quiet-expr (choose c a b) =
    quiet-append ((compile c ++ compile a) ++ compile b) (ins choose_op ∷ [])
    (quiet-append (compile c ++ compile a) (compile b) (quiet-append (compile c) (compile a) (quiet-expr c) (quiet-expr a)) (quiet-expr b))
    (λ z. omega arith, tt)

quiet-code : (vals : List Float) (n g : ℕ) (t : Statements) → Playable vals n g t → Quiet (code_of_tree t)
unfolding Every code_of_tree Playable
quiet-code vals n g done p = tt
quiet-code vals n g (assign c e t) p =
    quiet-append (compile e) (ins_arg store_op c ∷ code_of_tree t) (quiet-expr e) (λ z. omega arith, quiet-code vals (suc (after n e)) g t p.1)
quiet-code vals n g (output e t) p =
    quiet-append (compile e) (ins output_op ∷ code_of_tree t) (quiet-expr e) (λ z. omega arith, quiet-code vals (suc (after n e)) g t p.1)
quiet-code vals n g (branch e a b t) p =
    let m = suc (after n e) in
    let k = suc (past m a) in
    quiet-append (compile e) (ins if_op ∷ (code_of_tree a ++ ins else_op ∷ (code_of_tree b ++ ins end_op ∷ code_of_tree t))) (quiet-expr e) (
      λ z. omega arith,
      quiet-append (code_of_tree a) (ins else_op ∷ (code_of_tree b ++ ins end_op ∷ code_of_tree t)) (quiet-code vals m (suc g) a p.1.1.0) (
        λ z. omega arith,
        quiet-append (code_of_tree b) (ins end_op ∷ code_of_tree t) (quiet-code vals k (suc g) b p.1.1.1.0) (
          λ z. omega arith,
          quiet-code vals (suc (past k b)) g t p.1.1.1.1,
        ),
      ),
    )

-- ---- declarations

abbrev Idle : List Ins → Type 0
Idle = Every (λ (i : Ins). op_class_of i.op ≡ Declare)

abbrev idle-append : (a b : List Ins) → Idle a → Idle b → Idle (a ++ b)
idle-append = every_append (λ (i : Ins). op_class_of i.op ≡ Declare)

idle-declare : (k : ℕ) (ns : List ℕ) → op_class_of k ≡ Declare → Idle (declare k ns)
unfolding Every declare
idle-declare k [] h = tt
idle-declare k (n ∷ ns) h = (h, idle-declare k ns h)

idle-declared : (ds : List Declaration) → FormedKinds ds → Idle (declared ds)
unfolding Every declared FormedKinds
idle-declared [] h = tt
idle-declared (d ∷ ds) h = idle-append (declare d.kind d.names) (declared ds) (idle-declare d.kind d.names h.0) (idle-declared ds h.1)

not-instr : (o : ℕ) → op_class_of o ≡ Declare → o ≡ 1 → ⊥
not-instr o h e = let z : Instr ≡ Declare = sym (ap op_class_of e) ∙ h in let y : ◌≡◌ {A = ℕ} 0 1 = cc in omega arith

idle-quiet : (c : List Ins) → Idle c → Quiet c
unfolding Every
idle-quiet [] p = tt
idle-quiet (i ∷ c) p = (not-instr i.op p.0, idle-quiet c p.1)

not_noted : (room o : ℕ) (s : List ℕ) (at : ℕ) → (o ≡ 1 → ⊥) → noted room o s at ≡ s
unfolding noted
not_noted room o s at h = rw (ne_eqb o 1 h)

module _ (cap r : ℕ) where
  idle-one : (n o a : ℕ) (l : Low) → op_class_of o ≡ Declare → lower_one cap r n o a l ≡ l
  unfolding lower_one
  idle-one n o a l h = rw h

  idle-all : (c : List Ins) (n : ℕ) (l : Low) → Idle c → lower_all cap r n c l ≡ l
  unfolding lower_all Every
  idle-all [] n l p = refl
  idle-all (i ∷ c) n l p = ap (lower_all cap r (suc n) c) (idle-one n i.op i.arg l p.0) ∙ idle-all c (suc n) l p.1

  lower-append : (a b : List Ins) (n : ℕ) (l : Low) → lower_all cap r n (a ++ b) l ≡ lower_all cap r (n + length a) b (lower_all cap r n a l)
  unfolding lower_all
  lower-append [] b n l = let z : n + 0 ≡ n = omega arith in ap (λ (k : ℕ). lower_all cap r k b l) (sym z)
  lower-append (i ∷ a) b n l =
      let z : suc n + length a ≡ n + suc (length a) = omega arith in
      lower-append a b (suc n) (lower_one cap r n i.op i.arg l) ∙ ap (λ (k : ℕ). lower_all cap r k b (lower_all cap r (suc n) a (lower_one cap r n i.op i.arg l))) z

  module _ (room : ℕ) where
    abbrev walk : ℕ → List Ins → Low → List ℕ → Code
    walk n c l s = walk_from cap room r n (ops_of c) (args_of c) l s

    walk-quiet : (seg more : List Ins) (n : ℕ) (l : Low) (s : List ℕ) → Quiet seg → walk n (seg ++ more) l s ≡ walk (n + length seg) more (lower_all cap r n seg l) s
    unfolding walk_from noted lower_all Every
    walk-quiet [] more n l s p = let z : n + 0 ≡ n = omega arith in ap (λ (k : ℕ). walk k more l s) (sym z)
    walk-quiet (i ∷ seg) more n l s p =
        let m = lower_one cap r n i.op i.arg l in
        let z : suc n + length seg ≡ n + suc (length seg) = omega arith in
        ap (λ (t : List ℕ). walk (suc n) (seg ++ more) m t) (not_noted room i.op s (length l.code) p.0)
        ∙ walk-quiet seg more (suc n) m s p.1
        ∙ ap (λ (k : ℕ). walk k more (lower_all cap r (suc n) seg m) s) z

    -- declarations do nothing, and the statements' words are appended
    lower-body : (vals : List Float) (n : ℕ) (ds : List Ins) (t : Statements) (c : List ℕ) → Idle ds → Playable vals (n + length ds) 0 t → length c + length (code_of_tree t) ≤ cap → Ended note_places c
        → lower_all cap r n (ds ++ code_of_tree t) (rest c 0) ≡ rest (c ++ lowered r (n + length ds) 0 t) 0
    unfolding lower_all
    lower-body vals n ds t c q p f j =
        let m = n + length ds in
        lower-append ds (code_of_tree t) n (rest c 0)
        ∙ ap (lower_all cap r m (code_of_tree t)) (idle-all ds n (rest c 0) q)
        ∙ ap (λ (x : List Ins). lower_all cap r m x (rest c 0)) (sym (append-nil (code_of_tree t)))
        ∙ walk-appends cap r vals m 0 t [] c p (omega arith) (omega (arith, past-length m t)) j

    -- one instrument: where its words begin is noted
    walk-instrument : (vals : List Float) (n : ℕ) (i : Instrument) (more : List Ins) (c s : List ℕ) → Playable vals (body_at n i) 0 i.body → FormedKinds i.declarations
        → length c + length (instrument i) ≤ cap → length s < room → Ended note_places c
        → walk n (instrument i ++ more) (rest c 0) s ≡ walk (n + length (instrument i)) more (rest (c ++ lowered r (body_at n i) 0 i.body) 0) (s ++ length c ∷ [])
    unfolding walk_from lower_one noted
    walk-instrument vals n i more c s p h f g j =
        let d = declare field_kind i.fields in
        let e = declared i.declarations in
        let b = code_of_tree i.body in
        let seg = d ++ (e ++ b) in
        let q : Idle (d ++ e) = idle-append d e (idle-declare field_kind i.fields refl) (idle-declared i.declarations h) in
        let quiet : Quiet seg = quiet-append d (e ++ b) (idle-quiet d (idle-declare field_kind i.fields refl))
        (quiet-append e b (idle-quiet e (idle-declared i.declarations h)) (quiet-code vals (body_at n i) 0 i.body p)) in
        let l₁ = length-append d (e ++ b) in
        let l₂ = length-append e b in
        let z : suc n + length seg ≡ n + suc (length seg) = omega arith in
        let low : lower_all cap r (suc n) seg (rest c 0) ≡ rest (c ++ lowered r (body_at n i) 0 i.body) 0 =
        ap (λ (x : List Ins). lower_all cap r (suc n) x (rest c 0)) (sym (append_assoc d e b)) ∙ lower-body vals (suc n) (d ++ e) i.body c q p (omega arith) j in
        ap (λ (t : List ℕ). walk (suc n) (seg ++ more) (rest c 0) t) (emit-room room s (length c) g)
        ∙ walk-quiet seg more (suc n) (rest c 0) (s ++ length c ∷ []) quiet
        ∙ ap (λ (l : Low). walk (suc n + length seg) more l (s ++ length c ∷ [])) low
        ∙ ap (λ (k : ℕ). walk k more (rest (c ++ lowered r (body_at n i) 0 i.body) 0) (s ++ length c ∷ [])) z

    walk_none : (n : ℕ) (c s : List ℕ) → length s < room → walk n [] (rest c 0) s ≡ code (c ++ []) (s ++ length c ∷ [])
    unfolding walk_from
    walk_none n c s g = λ j. code (sym (append-nil c) j) (emit-room room s (length c) g j)

    pub walk-program : (vals : List Float) (is : List Instrument) (n : ℕ) (c s : List ℕ) → AllPlayable vals n is → KindsAll is → length c + length (program is) ≤ cap
        → length s + suc (length is) ≤ room → Ended note_places c
        → walk n (program is) (rest c 0) s ≡ code (c ++ all_lowered r n is) (s ++ starts_from r (length c) n is)
    unfolding program AllPlayable KindsAll all_lowered starts_from
    walk-program vals [] n c s p h f g j = walk_none n c s (omega arith)
    walk-program vals (i ∷ is) n c s p h f g j =
        let w = lowered r (body_at n i) 0 i.body in
        let m = n + length (instrument i) in
        let l = length-append (instrument i) (program is) in
        let lw : length (c ++ w) ≡ length c + length w = length-append c w in
        let lb = body-length n i in
        let lo = lowered-length r (body_at n i) 0 i.body in
        let ls = length-append s (length c ∷ []) in
        walk-instrument vals n i (program is) c s p.0 h.0 (omega arith) (omega arith) j
        ∙ walk-program vals is m (c ++ w) (s ++ length c ∷ []) p.1 h.1 (omega arith) (omega arith) (ended-append note_places c w j (lowered-ended r (body_at n i) 0 i.body))
        ∙ (λ k. code (append_assoc c w (all_lowered r m is) k) (append_assoc s (length c ∷ []) (starts_from r (length (c ++ w)) m is) k))
        ∙ ap (λ (k : ℕ). code (c ++ (w ++ all_lowered r m is)) (s ++ (length c ∷ starts_from r k m is))) lw

-- the code of all instruments sets a name or outputs last
pub all-ended : (r n : ℕ) (is : List Instrument) → Ended note_places (all_lowered r n is)
unfolding all_lowered
all-ended r n [] = none refl
all-ended r n (i ∷ is) = ended-append note_places _ _ (lowered-ended r (body_at n i) 0 i.body) (all-ended r (n + length (instrument i)) is)
