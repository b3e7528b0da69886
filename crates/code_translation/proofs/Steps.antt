-- The instructions of a guarded assignment, an output, an if and its else.
use Prim.Native.Nat.{ℕ, zero, suc, ◌≤◌, ◌<◌}
use native.Mathlib.Omega.{arith}
use mathlib.Core.Path.{◌≡◌, refl, ap, ◌∙◌, subst⁻¹}
use mathlib.Core.List.{List, [], ◌∷◌}
use mathlib.Core.Bool.{Bool, not, ◌&&◌, cond}
use lib.ListN.{length, get_or, set, take, length-set}
use lib.Seq.{get_or-set_same, take-set-le}
use lib.Ieee.{Float}
use borrow.Author.Tests.{ne_eqb}
use Rattle.orchestra_syntax.specs.Tree.{Expr}
use Rattle.orchestra_syntax.specs.inside.Program.{zero_f}
use Rattle.base_float32.specs.Builtins.{truth, not_of, both_of, select_of}
use Rattle.orchestra_signs.specs.Operators.{Unary, Binary}
use Rattle.orchestra_semantics.specs.inside.Placed.{value}
use Rattle.code_operations.specs.Operations as O
use Rattle.code_operations.specs.Words.{note_places, most_ifs, frame_places, room_places}
use Rattle.code_interpreter.specs.Run.{at, minus_zero, Outcome, outcome, does, step, run}
use Rattle.code_translation.specs.Translation.{instruction, guard_at, part_at, placed, parts, selected, sent, joined, guarded, turned}
use Rattle.code_translation.specs.Statements.{Workable}
use Rattle.code_translation.proofs.Words.{step-word, run-one, run-last}
use Rattle.code_translation.proofs.Exprs.{Kept, leaves, into-sets, parts-silent, into-silent, get_d-same, take_less, placed-small, at-inside}
use Rattle.code_translation.proofs.Guards.{holds, holds_kept, not_is, both_is, other}

-- ---- after an expression

module _ (g : ℕ) (s s₁ : List Float) (lg : g ≤ most_ifs) (i : Kept 0 s s₁) where
  pub still : take note_places s₁ ≡ take note_places s
  still = take_less note_places (part_at 0) s s₁ (omega arith) i.kept

  pub guards-still : (j : ℕ) → note_places ≤ j → j < guard_at (suc g) → get_or s₁ j zero_f ≡ get_or s j zero_f
  guards-still j a b = get_d-same (part_at 0) s s₁ j i.kept (omega arith)

  pub holds-still : holds g s₁ ≡ holds g s
  holds-still = holds_kept g s s₁ guards-still

module _ (vals : List Float) where
  -- the word of a guarded assignment, on a frame with the expression's value x at p
  pub selected-does : (g to p : ℕ) (x : Float) (s : List Float) → suc g ≤ most_ifs → to < note_places → p < room_places → length s ≡ frame_places → at vals s p ≡ x
      → step vals (selected (suc g) to p) s ≡ outcome (set s to (cond (holds (suc g) s) x (get_or s to zero_f))) []
  unfolding holds select_of does
  selected-does g to p x s lg ht hp l h =
      let m = guard_at (suc g) in
      step-word O.select to m p to (omega arith) (omega arith) hp (omega arith) vals s
      ∙ rw (h, at-inside vals s m (omega arith), at-inside vals s to (omega arith))

  -- the word of an output
  pub sent-does : (g p : ℕ) (x : Float) (s : List Float) → g ≤ most_ifs → p < room_places → length s ≡ frame_places → at vals s p ≡ x
      → step vals (sent g p) s ≡ outcome s (cond (holds g s) x minus_zero ∷ [])
  unfolding sent holds select_of does
  sent-does zero p x s lg hp l h =
      step-word O.output 0 p 0 0 (omega arith) hp (omega arith) (omega arith) vals s ∙ ap (λ y. outcome s (y ∷ [])) h
  sent-does (suc g) p x s lg hp l h =
      let m = guard_at (suc g) in
      rw (ne_eqb (suc g) 0 (λ z. omega arith))
      (step-word O.guarded_output 0 m p 0 (omega arith) (omega arith) hp (omega arith) vals s
      ∙ rw (h, at-inside vals s m (omega arith)))

  -- ---- guards

  -- the guard of one if more is set, to hold or not; nothing is put out, the values and the guards around stay
  pub record Guards (g : ℕ) (b : Bool) (s : List Float) (r : Outcome) : Type 0 where
    pub size : length r.frame ≡ frame_places
    pub silent : r.outputs ≡ []
    pub same : take note_places r.frame ≡ take note_places s
    pub kept : (i : ℕ) → note_places ≤ i → i < guard_at (suc g) → get_or r.frame i zero_f ≡ get_or s i zero_f
    pub guard : holds (suc g) r.frame ≡ b

  guards-set : (g : ℕ) (b : Bool) (f : List Float) (y : Float) → g < most_ifs → length f ≡ frame_places → truth y ≡ b → Guards g b f (outcome (set f (guard_at (suc g)) y) [])
  unfolding holds
  guards-set g b f y lg l e =
      let m = guard_at (suc g) in
      record {
        size = length-set f m y ∙ l;
        silent = refl;
        same = take-set-le note_places f m y (omega arith);
        kept = λ i a c. other f m i y (λ q. omega arith);
        guard = ap truth (get_or-set_same f m y zero_f (omega arith)) ∙ e;
      }

  module _ {g : ℕ} {b : Bool} {s : List Float} {r : Outcome} where
    guards-as : {q : Outcome} → q ≡ r → Guards g b s r → Guards g b s q
    guards-as e d = subst⁻¹ (λ (t : Outcome). Guards g b s t) e d

    guards-after : {s₁ : List Float} → take note_places s₁ ≡ take note_places s → ((i : ℕ) → note_places ≤ i → i < guard_at (suc g) → get_or s₁ i zero_f ≡ get_or s i zero_f)
        → Guards g b s₁ r → Guards g b s r
    guards-after e k d = record { size = d.size; silent = d.silent; same = d.same ∙ e; kept = λ i a c. d.kept i a c ∙ k i a c; guard = d.guard }

  -- the guard around and a value
  joins : (g p : ℕ) (x : Float) (s : List Float) → suc g < most_ifs → p < room_places → length s ≡ frame_places → at vals s p ≡ x
      → Guards (suc g) (holds (suc g) s && truth x) s (step vals (joined (suc g) p) s)
  unfolding holds does
  joins g p x s lg hp l h =
      let m = guard_at (suc g) in
      let to = guard_at (suc (suc g)) in
      guards-as
      (step-word (O.binary Binary.and) to m p 0 (omega arith) (omega arith) hp (omega arith) vals s ∙ rw (h, at-inside vals s m (omega arith)))
      (guards-set (suc g) _ s (both_of (get_or s m zero_f) x) lg l (both_is (get_or s m zero_f) x))

  -- a guard that no longer holds where it held
  negates : (g : ℕ) (s : List Float) → g < most_ifs → length s ≡ frame_places
      → Guards g (not (holds (suc g) s)) s (step vals (instruction (O.unary Unary.not) (guard_at (suc g)) (guard_at (suc g)) 0 0) s)
  unfolding holds does
  negates g s lg l =
      let m = guard_at (suc g) in
      guards-as
      (step-word (O.unary Unary.not) m m 0 0 (omega arith) (omega arith) (omega arith) (omega arith) vals s ∙ rw (at-inside vals s m (omega arith)))
      (guards-set g _ s (not_of (get_or s m zero_f)) lg l (not_is (get_or s m zero_f)))

  pub opens : (n g : ℕ) (e : Expr) (s : List Float) → Workable vals n e → g < most_ifs → length s ≡ frame_places
      → Guards g (holds g s && truth (value (take note_places s) e)) s (run vals (guarded g n e) s)
  unfolding guarded holds
  opens n zero e s w lg l =
      let i = into-sets vals e n (guard_at 1) s w.held w.deep (omega arith) w.short l in
      guards-as (λ k. outcome (i.is k) (into-silent vals e n (guard_at 1) s k))
      (guards-after (still 0 s _ (omega arith) i.still) (guards-still 0 s _ (omega arith) i.still) (guards-set 0 _ i.before _ lg i.still.size refl))
  opens n (suc g) e s w lg l =
      let s₁ = (run vals (parts n 0 e) s).frame in
      let i = leaves vals e n 0 s w.held (omega (arith, w.deep)) w.short l in
      rw (ne_eqb (suc g) 0 (λ z. omega arith), ← holds-still (suc g) s s₁ (omega arith) i.still)
      (guards-as (run-last vals (parts n 0 e) (joined (suc g) (placed n 0 e)) s (parts-silent vals e n 0 s))
      (guards-after (still (suc g) s s₁ (omega arith) i.still) (guards-still (suc g) s s₁ (omega arith) i.still)
      (joins g (placed n 0 e) _ s₁ lg (placed-small n 0 e (omega arith) w.short) i.still.size i.is)))

  pub turns : (g : ℕ) (s : List Float) → g < most_ifs → length s ≡ frame_places → Guards g (holds g s && not (holds (suc g) s)) s (run vals (turned g) s)
  unfolding turned run holds
  turns zero s lg l = guards-as (run-one vals (instruction (O.unary Unary.not) (guard_at 1) (guard_at 1) 0 0) s) (negates 0 s lg l)
  turns (suc g) s lg l =
      let m = guard_at (suc (suc g)) in
      let w = instruction (O.unary Unary.not) m m 0 0 in
      let s₁ = (step vals w s).frame in
      let d = negates (suc g) s lg l in
      rw (ne_eqb (suc g) 0 (λ z. omega arith), ← holds_kept (suc g) s s₁ d.kept, ← d.guard)
      (guards-as (run-last vals (w ∷ []) (joined (suc g) m) s (ap (λ (r : Outcome). r.outputs) (run-one vals w s) ∙ d.silent))
      (guards-after d.same d.kept (joins g m _ s₁ lg (omega arith) d.size (at-inside vals s₁ m (omega (arith, d.size))))))
