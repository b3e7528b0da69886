-- A note's passes keep the number of its values, and a sum that is a 32-bit float stays one.
use mathlib.Core.Path.{◌≡◌, refl, ap, ◌∙◌}
use mathlib.Core.List.{List, [], ◌∷◌, ◌++◌}
use Prim.Native.Nat.{ℕ, suc, ◌+◌}
use native.Mathlib.Omega.{arith}
use lib.Dec.{T, eqb}
use lib.ListN.{length, take, replicate, length-set, length-take, length-append, length-replicate}
use lib.Ieee.{Float, binary32, fits}
use lib.Ieee.Fits.{add-fits}
use Rattle.orchestra_syntax.specs.Tree.{Statements, done, assign, output, branch}
use Rattle.orchestra_syntax.specs.inside.Program.{zero_f}
use Rattle.orchestra_syntax.specs.inside.Placed.{rate_of, place_of}
use Rattle.base_float32.specs.Builtins.{truth}
use Rattle.orchestra_semantics.specs.inside.Placed.{value, a_rate, Sounding, sounding, assigned, outputs, pass, fresh, birth, k_pass, a_passes}
use Rattle.code_translation.specs.Statements.{AllFit}
use Rattle.player_model.proofs.Lists.{either_way}
use Rattle.voices_compiled.specs.Voices.{named}

record Kept (s s' : Sounding) : Type 0 where
  size : length s'.values ≡ length s.values
  fit : T (fits binary32 s.sample) → T (fits binary32 s'.sample)

same : (s : Sounding) → Kept s s
same s = record { size = refl; fit = λ h. h }

both : {s s' s'' : Sounding} → Kept s s' → Kept s' s'' → Kept s s''
both a b = record { size = b.size ∙ a.size; fit = λ h. b.fit (a.fit h) }

assigned-kept : (r n : ℕ) (x : Float) (s : Sounding) → Kept s (assigned r n x s)
unfolding assigned
assigned-kept r n x s = either_way (Kept s) (eqb (rate_of n) r) (record { size = length-set s.values (place_of n) x; fit = λ h. h }) (same s)

outputs-kept : (r : ℕ) (x : Float) (s : Sounding) → Kept s (outputs r x s)
unfolding outputs
outputs-kept r x s = either_way (Kept s) (eqb r a_rate) (record { size = refl; fit = λ h. add-fits binary32 s.sample x }) (same s)

pass_kept : (r : ℕ) (t : Statements) (s : Sounding) → Kept s (pass r t s)
unfolding pass
pass_kept r done s = same s
pass_kept r (assign n e t) s = both (assigned-kept r n (value s.values e) s) (pass_kept r t _)
pass_kept r (output e t) s = both (outputs-kept r (value s.values e) s) (pass_kept r t _)
pass_kept r (branch e a b t) s =
    both (either_way (Kept s) (truth (value s.values e)) (pass_kept r a s) (pass_kept r b s)) (pass_kept r t _)

pub birth-size : (t : Statements) (vs : List Float) → length (birth t vs) ≡ 16
unfolding birth fresh
birth-size t vs =
    (pass_kept 0 t (sounding (take 16 (vs ++ replicate 16 zero_f)) zero_f)).size
    ∙ length-take 16 (vs ++ replicate 16 zero_f)
    ∙ simp (length-append, length-replicate) (omega arith)

pub k-size : (t : Statements) (vs : List Float) → length (k_pass t vs) ≡ length vs
unfolding k_pass
k-size t vs = (pass_kept 1 t (sounding vs zero_f)).size

pub a-size : (t : Statements) (vs mix : List Float) → length (a_passes t vs mix).values ≡ length vs
unfolding a_passes
a-size t vs [] = refl
a-size t vs (x ∷ xs) = a-size t (pass 2 t (sounding vs x)).values xs ∙ (pass_kept 2 t (sounding vs x)).size

pub a-fits : (t : Statements) (vs mix : List Float) → AllFit mix → AllFit (a_passes t vs mix).mix
unfolding a_passes AllFit
a-fits t vs [] h = tt
a-fits t vs (x ∷ xs) h = ((pass_kept 2 t (sounding vs x)).fit h.0, a-fits t (pass 2 t (sounding vs x)).values xs h.1)

pub named-size : (x : ℕ) (a : Float) (is : List ℕ) (vs : List Float) → length (named x a is vs) ≡ length vs
unfolding named
named-size x a [] vs = refl
named-size x a (i ∷ is) [] = refl
named-size x a (i ∷ is) (v ∷ vs) = ap suc (named-size x a is vs)
