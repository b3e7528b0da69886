-- What one statement's instructions do under the guards around it.
use Prim.Native.Nat.{ℕ, zero, suc, ◌≤◌, ◌<◌}
use native.Mathlib.Omega.{arith}
use mathlib.Core.Path.{◌≡◌, refl, sym, ap, ◌∙◌, subst⁻¹}
use mathlib.Core.List.{List, [], ◌∷◌}
use mathlib.Core.Bool.{Bool, true, false, not, ◌&&◌, cond}
use lib.ListN.{length, get_or, set, take}
use lib.Seq.{get_or-set_other}
use lib.Dec.{T}
use lib.Ieee.{Float, binary32, add, fits, eq, ne, of_bits}
use lib.Ieee.Fits.{add-fits}
use Rattle.orchestra_syntax.specs.inside.Program.{zero_f}
use Rattle.base_float32.specs.Builtins.{truth, flag_of, not_of, both_of}
use Rattle.orchestra_semantics.specs.inside.Placed.{Sounding, sounding}
use Rattle.code_operations.specs.Words.{note_places, frame_places}
use Rattle.code_interpreter.specs.Run.{Outcome, outcome, followed}
use Rattle.code_interpreter.specs.Passes.{added}
use Rattle.code_interpreter.proofs.Running.{added-append}
use Rattle.code_translation.specs.Translation.{guard_at}

-- a frame's values, and a sample
abbrev pub sound : List Float → Float → Sounding
sound f y = sounding (take note_places f) y

-- a sample with outputs added is a float of the format
pub added-fits : (y : Float) (xs : List Float) → T (fits binary32 y) → T (fits binary32 (added y xs))
unfolding added
added-fits y [] h = h
added-fits y (x ∷ xs) h = added-fits (add binary32 y x) xs (add-fits binary32 y x)

-- whether the guards around hold, with g ifs open
unfoldable pub holds : ℕ → List Float → Bool
holds zero f = true
holds (suc g) f = truth (get_or f (guard_at (suc g)) zero_f)

-- From f to an outcome r the sound went by E, whatever the sample; the guards of the g open ifs stayed.
pub record Went (g : ℕ) (E : Sounding → Sounding) (f : List Float) (r : Outcome) : Type 0 where
  pub size : length r.frame ≡ frame_places
  pub is : (y : Float) → T (fits binary32 y) → sound r.frame (added y r.outputs) ≡ E (sound f y)
  pub kept : (i : ℕ) → note_places ≤ i → i < guard_at (suc g) → get_or r.frame i zero_f ≡ get_or f i zero_f

-- by F where the guards around hold
abbrev pub Did : ℕ → (Sounding → Sounding) → List Float → Outcome → Type 0
Did g F f r = Went g (λ (x : Sounding). cond (holds g f) (F x) x) f r

pub holds_kept : (g : ℕ) (f h : List Float) → ((i : ℕ) → note_places ≤ i → i < guard_at (suc g) → get_or h i zero_f ≡ get_or f i zero_f) → holds g h ≡ holds g f
unfolding holds
holds_kept zero f h k = refl
holds_kept (suc g) f h k = ap truth (k (guard_at (suc g)) (omega arith) (omega arith))

module _ {g : ℕ} {E : Sounding → Sounding} {f : List Float} {r : Outcome} where
  pub went-as : {q : Outcome} → q ≡ r → Went g E f r → Went g E f q
  went-as e d = subst⁻¹ (λ (t : Outcome). Went g E f t) e d

  pub went-by : (D : Sounding → Sounding) → ((y : Float) → E (sound f y) ≡ D (sound f y)) → Went g E f r → Went g D f r
  went-by D e d = record { size = d.size; is = λ y t. d.is y t ∙ e y; kept = d.kept }

  -- within fewer ifs
  pub went-less : Went (suc g) E f r → Went g E f r
  went-less d = record { size = d.size; is = d.is; kept = λ i a b. d.kept i a (omega arith) }

  -- two steps, one after the other
  pub went_then : {D : Sounding → Sounding} {q : Outcome} → Went g E f r → Went g D r.frame q → Went g (λ (x : Sounding). D (E x)) f (followed r q)
  went_then {D = D} {q = q} d e = record {
    size = e.size;
    is = λ y t.
        ap (sound q.frame) (added-append y r.outputs q.outputs) ∙ e.is (added y r.outputs) (added-fits y r.outputs t) ∙ ap D (d.is y t);
    kept = λ i a b. e.kept i a b ∙ d.kept i a b;
  }

-- the same under one guard
both-steps : {A : Type 0} (b : Bool) (F G : A → A) (x : A) → cond b (G (cond b (F x) x)) (cond b (F x) x) ≡ cond b (G (F x)) x
both-steps true F G x = refl
both-steps false F G x = refl

pub then : {g : ℕ} (F G : Sounding → Sounding) {f : List Float} {r q : Outcome} → Did g F f r → Did g G r.frame q → Did g (λ (x : Sounding). G (F x)) f (followed r q)
then {g} F G {f} {r} d e =
    went-by _ (λ y. rw (holds_kept g f r.frame d.kept) (both-steps (holds g f) F G (sound f y))) (went_then d e)

cond_same : {A : Type 0} (b : Bool) (x : A) → cond b x x ≡ x
cond_same true x = refl
cond_same false x = refl

-- a statement that this pass leaves out
pub idle : (g : ℕ) (F : Sounding → Sounding) (s : List Float) → length s ≡ frame_places → ((y : Float) → F (sound s y) ≡ sound s y) → Did g F s (outcome s [])
unfolding added
idle g F s l e = record { size = l; is = λ y h. rw (e y) (sym (cond_same (holds g s) (sound s y))); kept = λ i a b. refl }

-- ---- truth

pub truth-flag : (b : Bool) → truth (flag_of b) ≡ b
unfolding truth flag_of ne eq of_bits
truth-flag true = refl
truth-flag false = refl

pub not_is : (x : Float) → truth (not_of x) ≡ not (truth x)
unfolding not_of
not_is x = truth-flag (not (truth x))

pub both_is : (x y : Float) → truth (both_of x y) ≡ (truth x && truth y)
unfolding both_of
both_is x y = truth-flag (truth x && truth y)

-- ---- a place set beside the values

pub other : (f : List Float) (i j : ℕ) (x : Float) → (j ≡ i → ⊥) → get_or (set f i x) j zero_f ≡ get_or f j zero_f
other f i j x h = get_or-set_other f i j x zero_f h
