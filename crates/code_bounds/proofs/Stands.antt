-- The numbers of a program stand where the code of its expressions holds them, so straight-line code can pass its statements.
use Prim.Native.Nat.{ℕ, suc, ◌+◌, ◌≤◌}
use native.Mathlib.Omega.{arith}
use mathlib.Core.Path.{◌≡◌, refl, sym, ap, ◌∙◌}
use mathlib.Core.List.{List, [], ◌∷◌, ◌++◌, append_assoc}
use lib.ListN.{length, length-append, length-map, drop, get_or}
use lib.Seq.{drop-drop, drop-append_seam, get_or-drop}
use lib.Ieee.{Float}
use Rattle.orchestra_syntax.specs.Tree.{Expr, number, name, unary, binary, choose, Statements, done, assign, output, branch}
use Rattle.orchestra_syntax.specs.inside.Program.{unary_op, binary_op, Ins, ins, ins_arg, choose_op, store_op, output_op, if_op, else_op, end_op, zero_f, compile, code}
use Rattle.orchestra_expressions.specs.Areas.{val_of}
use Rattle.code_operations.specs.Words.{program_size}
use Rattle.code_translation.specs.Translation.{after, past}
use Rattle.code_translation.specs.Statements.{Holds, Workable, Playable}
use Rattle.code_bounds.specs.Sizes.{Shallow, Small, numbers}
use Rattle.code_bounds.proofs.Exprs.{after-length, past-length, length-assign, length-output, length-branch}

-- the numbers of code stand at n
pub record Stands (vals : List Float) (n : ℕ) (c : List Ins) : Type 0 where
  pub behind : List Float
  pub here : drop n vals ≡ numbers c ++ behind

numbers-append : (c d : List Ins) → numbers (c ++ d) ≡ numbers c ++ numbers d
numbers-append [] d = refl
numbers-append (i ∷ c) d = ap (λ (l : List Float). val_of i ∷ l) (numbers-append c d)

module _ (vals : List Float) where
  pub first : (n : ℕ) (c d : List Ins) → Stands vals n (c ++ d) → Stands vals n c
  first n c d s = record { behind = numbers d ++ s.behind; here = s.here ∙ rw (numbers-append c d, append_assoc) }

  pub second : (n : ℕ) (c d : List Ins) → Stands vals n (c ++ d) → Stands vals (n + length c) d
  unfolding first
  second n c d s =
      let z : drop n vals ≡ numbers c ++ (numbers d ++ s.behind) = (first n c d s).here in
      let e : length (numbers c) ≡ length c = length-map c val_of in
      record {
        behind = s.behind;
        here = sym (drop-drop (length c) n vals) ∙ ap (λ (k : ℕ). drop k (drop n vals)) (sym e) ∙ ap (drop (length (numbers c))) z
            ∙ drop-append_seam (numbers c) (numbers d ++ s.behind);
      }

  -- after code, and one instruction of another kind
  pub third : (n : ℕ) (c : List Ins) (i : Ins) (d : List Ins) → Stands vals n (c ++ i ∷ d) → Stands vals (suc (n + length c)) d
  third n c i d s =
      let z = second (n + length c) (i ∷ []) d (second n c (i ∷ d) s) in
      let e : n + length c + 1 ≡ suc (n + length c) = omega arith in
      rw e at z

  -- ---- expressions

  holds-number : (n : ℕ) (x : Float) → Stands vals n (compile (number x)) → get_or vals n zero_f ≡ x
  unfolding compile
  holds-number n x s =
      let e : n + 0 ≡ n = omega arith in
      sym (ap (λ (k : ℕ). get_or vals k zero_f) e) ∙ sym (get_or-drop n vals 0 zero_f) ∙ ap (λ (l : List Float). get_or l 0 zero_f) s.here

  pub holds : (n : ℕ) (e : Expr) → Stands vals n (compile e) → Holds vals n e
  unfolding Holds compile
  holds n (number x) s = holds-number n x s
  holds n (name c) s = tt
  holds n (unary o e) s = holds n e (first n (compile e) (ins (unary_op o) ∷ []) s)
  holds n (binary o a b) s =
      let ab = first n (compile a ++ compile b) (ins (binary_op o) ∷ []) s in
      (holds n a (first n (compile a) (compile b) ab), holds (after n a) b (rw (after-length n a) (second n (compile a) (compile b) ab)))
  holds n (choose c a b) s =
      let k = after n c in
      let cab = first n (compile c ++ compile a ++ compile b) (ins choose_op ∷ []) s in
      let ca = first n (compile c ++ compile a) (compile b) cab in
      let l : after k a ≡ n + length (compile c ++ compile a) =
      omega (arith, after-length n c, after-length k a, length-append (compile c) (compile a)) in (
        holds n c (first n (compile c) (compile a) ca),
        (
          holds k a (rw (after-length n c) (second n (compile c) (compile a) ca)),
          holds (after k a) b (rw l (second n (compile c ++ compile a) (compile b) cab)),
        ),
      )

  -- ---- statements

  workable : (n : ℕ) (e : Expr) → Shallow e → Stands vals n (compile e) → n + length (compile e) ≤ program_size → Workable vals n e
  workable n e h s l = record { deep = h.deep; short = omega (arith, after-length n e); held = holds n e s }

  pub playable : (n g : ℕ) (t : Statements) → Small g t → Stands vals n (code t) → n + length (code t) ≤ program_size → Playable vals n g t
  unfolding Playable Small code
  playable n g done h s l = tt
  playable n g (assign c e t) h s l =
      let m : suc (after n e) ≡ suc (n + length (compile e)) = omega (arith, after-length n e) in
      let q = length-assign c e t in (
        workable n e h.0 (first n (compile e) (ins_arg store_op c ∷ code t) s) (omega arith),
        playable (suc (after n e)) g t h.1 (rw m (third n (compile e) (ins_arg store_op c) (code t) s)) (omega arith),
      )
  playable n g (output e t) h s l =
      let m : suc (after n e) ≡ suc (n + length (compile e)) = omega (arith, after-length n e) in
      let q = length-output 0 e t in (
        workable n e h.0 (first n (compile e) (ins output_op ∷ code t) s) (omega arith),
        playable (suc (after n e)) g t h.1 (rw m (third n (compile e) (ins output_op) (code t) s)) (omega arith),
      )
  playable n g (branch e a b t) h s l =
      let m = suc (after n e) in
      let k = suc (past m a) in
      let p = suc (past k b) in
      let mm : m ≡ suc (n + length (compile e)) = omega (arith, after-length n e) in
      let kk : k ≡ suc (m + length (code a)) = omega (arith, past-length m a) in
      let pp : p ≡ suc (k + length (code b)) = omega (arith, past-length k b) in
      let q = length-branch e a b t in
      let x : Stands vals m (code a ++ ins else_op ∷ (code b ++ ins end_op ∷ code t)) = rw mm (third n (compile e) (ins if_op) _ s) in
      let y : Stands vals k (code b ++ ins end_op ∷ code t) = rw kk (third m (code a) (ins else_op) _ x) in
      let z : Stands vals p (code t) = rw pp (third k (code b) (ins end_op) (code t) y) in (
        workable n e h.0 (first n (compile e) _ s) (omega arith),
        (
          h.1.0,
          (
            playable m (suc g) a h.1.1.0 (first m (code a) _ x) (omega arith),
            (playable k (suc g) b h.1.1.1.0 (first k (code b) _ y) (omega arith), playable p g t h.1.1.1.1 z (omega arith)),
          ),
        ),
      )
