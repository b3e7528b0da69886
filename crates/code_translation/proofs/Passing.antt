-- A pass over the code of statements does what the statements do, under the guards around them.
use Prim.Native.Nat.{ℕ, zero, suc, ◌≤◌}
use native.Mathlib.Omega.{arith}
use mathlib.Core.Path.{◌≡◌, refl, sym, ap, ◌∙◌}
use mathlib.Core.List.{List, [], ◌∷◌, ◌++◌}
use mathlib.Core.Bool.{Bool, true, false, not, ◌&&◌, cond}
use lib.ListN.{length, get_or, set, take, length-set}
use lib.Seq.{take-set-lt, get_or-take, set-get_or}
use lib.Dec.{T, eqb}
use lib.Ieee.{Float, binary32, add, fits}
use borrow.Author.Tests.{eqb-true, ne_eqb}
use Rattle.orchestra_syntax.specs.Tree.{Expr, Statements, done, assign, output, branch}
use Rattle.orchestra_syntax.specs.inside.Program.{zero_f}
use Rattle.orchestra_syntax.specs.inside.Placed.{rate_of, place_of}
use Rattle.base_float32.specs.Builtins.{truth}
use Rattle.orchestra_semantics.specs.inside.Placed.{value, Sounding, sounding, assigned, outputs, pass}
use Rattle.code_operations.specs.Words.{note_places, most_ifs, frame_places}
use Rattle.code_interpreter.specs.Run.{minus_zero, outcome, step, run}
use Rattle.code_interpreter.specs.Passes.{added}
use Rattle.code_translation.specs.Translation.{after, placed, parts, selected, stored, sent, guarded, turned, behind, past, lowered}
use Rattle.code_translation.specs.Statements.{Workable, Playable}
use Rattle.code_translation.proofs.Words.{run-append, run-behind, run-last}
use Rattle.code_translation.proofs.Exprs.{Kept, Leaves, leaves, into-sets, parts-silent, into-silent, placed-small}
use Rattle.code_translation.proofs.MinusZero.{add-minus-zero}
use Rattle.code_translation.proofs.Guards.{sound, holds, Went, Did, holds_kept, went-as, went-by, went-less, went_then, then, idle, other}
use Rattle.code_translation.proofs.Steps.{still, guards-still, holds-still, selected-does, sent-does, Guards, opens, turns}

abbrev Assign : ℕ → ℕ → Expr → Sounding → Sounding
Assign r c e x = assigned r c (value x.values e) x

abbrev Output : ℕ → Expr → Sounding → Sounding
Output r e x = outputs r (value x.values e) x

module _ (vals : List Float) where
  -- ---- after an expression

  -- an expression's parts, ready for the word after them
  ready : (n : ℕ) (e : Expr) (s : List Float) → Workable vals n e → length s ≡ frame_places → Leaves vals n 0 e s (run vals (parts n 0 e) s).frame
  ready n e s w l = leaves vals e n 0 s w.held (omega (arith, w.deep)) w.short l

  -- ---- an assignment of this pass

  module _ (r g c : ℕ) (e : Expr) (s s₁ : List Float) (rate : eqb (rate_of c) r ≡ true) (lg : g ≤ most_ifs) (i : Kept 0 s s₁) where
    abbrev v : Float
    v = value (take note_places s) e

    abbrev to : ℕ
    to = place_of c

    abbrev set_to : Bool → List Float
    set_to b = set s₁ to (cond b v (get_or s₁ to zero_f))

    assign-is : (b : Bool) (y : Float) → sound (set_to b) y ≡ cond b (Assign r c e (sound s y)) (sound s y)
    unfolding assigned
    assign-is true y = rw rate (ap (λ (l : List Float). sounding l y) (take-set-lt note_places s₁ to v (omega arith) ∙ ap (λ l. set l to v) (still g s s₁ lg i)))
    assign-is false y =
        let u = get_or s₁ to zero_f in
        let q : set (take note_places s₁) to u ≡ take note_places s₁ =
        ap (set (take note_places s₁) to) (sym (get_or-take note_places s₁ to zero_f (omega arith))) ∙ set-get_or (take note_places s₁) to zero_f in
        ap (λ (l : List Float). sounding l y) (take-set-lt note_places s₁ to u (omega arith) ∙ q ∙ still g s s₁ lg i)

    assigns-at : Did g (Assign r c e) s (outcome (set_to (holds g s₁)) [])
    unfolding added
    assigns-at =
        record {
          size = length-set s₁ to _ ∙ i.size;
          is = λ y t. assign-is (holds g s₁) y ∙ ap (λ (b : Bool). cond b (Assign r c e (sound s y)) (sound s y)) (holds-still g s s₁ lg i);
          kept = λ j a b. other s₁ to j _ (λ z. omega arith) ∙ guards-still g s s₁ lg i j a b;
        }

  -- with no if open the name's place is set at once, with ifs open where the guard holds
  assigns : (r n g c : ℕ) (e : Expr) (s : List Float) → eqb (rate_of c) r ≡ true → g ≤ most_ifs → Workable vals n e → length s ≡ frame_places
      → Did g (Assign r c e) s (run vals (stored g n (place_of c) e) s)
  unfolding stored holds
  assigns r n zero c e s q lg w l =
      let i = into-sets vals e n (place_of c) s w.held w.deep (omega arith) w.short l in
      went-as (λ k. outcome (i.is k) (into-silent vals e n (place_of c) s k)) (assigns-at r 0 c e s i.before q lg i.still)
  assigns r n (suc g) c e s q lg w l =
      let i = ready n e s w l in
      rw (ne_eqb (suc g) 0 (λ z. omega arith))
      (went-as
      (run-last vals (parts n 0 e) (selected (suc g) (place_of c) (placed n 0 e)) s (parts-silent vals e n 0 s)
      ∙ selected-does vals g (place_of c) (placed n 0 e) _ _ lg (omega arith) (placed-small n 0 e (omega arith) w.short) i.still.size i.is)
      (assigns-at r (suc g) c e s _ q lg i.still))

  -- ---- an output of the a pass

  module _ (n g : ℕ) (e : Expr) (s s₁ : List Float) (lg : g ≤ most_ifs) (i : Leaves vals n 0 e s s₁) where
    abbrev x₀ : Float
    x₀ = value (take note_places s) e

    send-is : (b : Bool) (y : Float) → T (fits binary32 y) → sound s₁ (add binary32 y (cond b x₀ minus_zero)) ≡ cond b (Output 2 e (sound s y)) (sound s y)
    unfolding outputs
    send-is true y t = ap (λ (l : List Float). sounding l (add binary32 y x₀)) (still g s s₁ lg i.still)
    send-is false y t = λ k. sounding (still g s s₁ lg i.still k) (add-minus-zero y t k)

    pub sends : (w : Workable vals n e) → Did g (Output 2 e) s (step vals (sent g (placed n 0 e)) s₁)
    unfolding added
    sends w =
        went-as
        (sent-does vals g (placed n 0 e) x₀ s₁ lg (placed-small n 0 e (omega arith) w.short) i.still.size i.is) (record {
          size = i.still.size;
          is = λ y t. send-is (holds g s₁) y t ∙ ap (λ (b : Bool). cond b (Output 2 e (sound s y)) (sound s y)) (holds-still g s s₁ lg i.still);
          kept = guards-still g s s₁ lg i.still;
        })

  -- ---- an if

  -- both blocks, each under its own guard
  blocks : {S : Type 0} (h t : Bool) (A B : S → S) (x : S)
      → cond (h && not (h && t)) (B (cond (h && t) (A x) x)) (cond (h && t) (A x) x) ≡ cond h (cond t (A x) (B x)) x
  blocks true true A B x = refl
  blocks true false A B x = refl
  blocks false true A B x = refl
  blocks false false A B x = refl

  -- code behind the words of a guard, where there is some
  went-behind : (gs c : List ℕ) {g : ℕ} {b : Bool} {E : Sounding → Sounding} (s : List Float) → length s ≡ frame_places → Guards vals g b s (run vals gs s)
      → Went g E (run vals gs s).frame (run vals c (run vals gs s).frame) → Went g E s (run vals (behind gs c) s)
  unfolding behind run added
  went-behind gs [] {E = E} s l o d = record {
    size = l;
    is = λ y t. ap (λ (v : List Float). sounding v y) (sym o.same) ∙ d.is y t ∙ ap (λ (v : List Float). E (sounding v y)) o.same;
    kept = λ i a b. refl;
  }
  went-behind gs (w ∷ c) {E = E} s l o d = went-as (run-behind vals gs (w ∷ c) s o.silent) (record {
    size = d.size;
    is = λ y t. d.is y t ∙ ap (λ (v : List Float). E (sounding v y)) o.same;
    kept = λ i a b. d.kept i a b ∙ o.kept i a b;
  })

  -- from s by a guard gs to s₂, by a block la to s₃, by the other guard tu to s₄, by the other block lb
  branches : (g : ℕ) (e : Expr) (A B : Sounding → Sounding) (s : List Float) → length s ≡ frame_places → (gs la tu lb : List ℕ)
      → let s₂ = (run vals gs s).frame in
      let s₃ = (run vals la s₂).frame in
      let s₄ = (run vals tu s₃).frame in
      Guards vals g (holds g s && truth (value (take note_places s) e)) s (run vals gs s) → Did (suc g) A s₂ (run vals la s₂)
      → Guards vals g (holds g s₃ && not (holds (suc g) s₃)) s₃ (run vals tu s₃) → Did (suc g) B s₄ (run vals lb s₄)
      → Did g (λ (x : Sounding). cond (truth (value x.values e)) (A x) (B x)) s (run vals (behind gs (la ++ behind tu lb)) s)
  branches g e A B s l gs la tu lb o a u b =
      let s₂ = (run vals gs s).frame in
      let s₃ = (run vals la s₂).frame in
      let around = holds_kept g s s₃ (λ j p q. a.kept j p (omega arith) ∙ o.kept j p q) in
      let own = holds_kept (suc g) s₂ s₃ a.kept ∙ o.guard in
      went-by _ (λ y. rw (u.guard, around, own, o.guard) (blocks (holds g s) (truth (value (take note_places s) e)) A B (sound s y)))
      (went-behind gs (la ++ behind tu lb) s l o
      (went-as (run-append vals la (behind tu lb) s₂) (went_then (went-less a) (went-behind tu lb s₃ a.size u (went-less b)))))

  -- ---- statements

  assign-first : (r n g c : ℕ) (e : Expr) (s : List Float) → Workable vals n e → g ≤ most_ifs → length s ≡ frame_places → (b : Bool) → eqb (rate_of c) r ≡ b
      → Did g (Assign r c e) s (run vals (cond b (stored g n (place_of c) e) []) s)
  unfolding run assigned
  assign-first r n g c e s w lg l true q = assigns r n g c e s q lg w l
  assign-first r n g c e s w lg l false q = idle g (Assign r c e) s l (λ y. rw q)

  output-first : (r n g : ℕ) (e : Expr) (s : List Float) → Workable vals n e → g ≤ most_ifs → length s ≡ frame_places → (b : Bool) → eqb r 2 ≡ b
      → Did g (Output r e) s (run vals (cond b (parts n 0 e ++ sent g (placed n 0 e) ∷ []) []) s)
  unfolding run outputs
  output-first r n g e s w lg l true q =
      went-as (run-last vals (parts n 0 e) (sent g (placed n 0 e)) s (parts-silent vals e n 0 s)) (rw (eqb-true r 2 q) (sends n g e s _ lg (ready n e s w l) w))
  output-first r n g e s w lg l false q = idle g (Output r e) s l (λ y. rw q)

  pub passes : (t : Statements) (r n g : ℕ) (s : List Float) → Playable vals n g t → g ≤ most_ifs → length s ≡ frame_places
      → Did g (λ (x : Sounding). pass r t x) s (run vals (lowered r n g t) s)
  unfolding lowered pass Playable run
  passes done r n g s p lg l = idle g (λ (x : Sounding). x) s l (λ y. refl)
  passes (assign c e t) r n g s p lg l =
      let d = assign-first r n g c e s p.0 lg l (eqb (rate_of c) r) refl in
      went-as (run-append vals (cond (eqb (rate_of c) r) (stored g n (place_of c) e) []) _ s)
      (then (Assign r c e) (pass r t) d (passes t r (suc (after n e)) g _ p.1 lg d.size))
  passes (output e t) r n g s p lg l =
      let d = output-first r n g e s p.0 lg l (eqb r 2) refl in
      went-as (run-append vals (cond (eqb r 2) (parts n 0 e ++ sent g (placed n 0 e) ∷ []) []) _ s)
      (then (Output r e) (pass r t) d (passes t r (suc (after n e)) g _ p.1 lg d.size))
  passes (branch e a b t) r n g s p lg l =
      let m = suc (after n e) in
      let k = suc (past m a) in
      let la = lowered r m (suc g) a in
      let lb = lowered r k (suc g) b in
      let o = opens vals n g e s p.0 p.1.0 l in
      let da = passes a r m (suc g) _ p.1.1.0 p.1.0 o.size in
      let u = turns vals g _ p.1.0 da.size in
      let db = passes b r k (suc g) _ p.1.1.1.0 p.1.0 u.size in
      let d = branches g e (pass r a) (pass r b) s l (guarded g n e) la (turned g) lb o da u db in
      went-as (run-append vals (behind (guarded g n e) (la ++ behind (turned g) lb)) _ s)
      (then (λ (x : Sounding). cond (truth (value x.values e)) (pass r a x) (pass r b x)) (pass r t) d (passes t r (suc (past k b)) g _ p.1.1.1.1 lg d.size))
