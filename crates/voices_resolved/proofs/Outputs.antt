-- The tree's voices only add: what a note outputs is its own affair.
use mathlib.Core.Path.{◌≡◌, refl, sym, ap, ◌∙◌}
use mathlib.Core.Bool.{Bool, true, false, cond}
use mathlib.Core.List.{List, [], ◌∷◌, ◌++◌, zip_with}
use Prim.Native.Nat.{ℕ, zero, suc}
use lib.Dec.{eqb}
use lib.ListN.{length}
use lib.Ieee.{Float, binary32, add}
use Rattle.orchestra_syntax.specs.Tree.{Instrument, Statements, done, assign, output, branch}
use Rattle.orchestra_syntax.specs.inside.Program.{zero_f}
use Rattle.orchestra_syntax.specs.inside.Placed.{rate_of}
use Rattle.base_float32.specs.Builtins.{truth}
use Rattle.orchestra_semantics.specs.inside.Placed.{value, a_rate, Sounding, sounding, assigned, outputs, pass, k_pass, Played, a_passes, cycle}
use Rattle.orchestra_semantics.specs.inside.Outputs.{after_pass, outputs_of, outputs_in, after_passes}
use Rattle.player_model.specs.Lists.{fold}
use Rattle.player_model.specs.Results.{with_outputs, Adding, SamplesSum}
use Rattle.player_model.proofs.Lists.{by-test, fold-append}
use Rattle.player_model.proofs.Results.{samples-sum}
use Rattle.voices_resolved.specs.Tree.{body_of, tree_voices}
use Rattle.voices_resolved.specs.Claims.{OutputsSum}
use Rattle.voices_resolved.specs.Claims as claims

-- a pass from a sample: the values that it leaves anyway, and its outputs added
record Passes (t : Statements) (vs : List Float) (x : Float) (s : Sounding) : Type 0 where
  values : s.values ≡ after_pass t vs
  sample : s.sample ≡ with_outputs x (outputs_of t vs)

-- an assignment and a choice do not touch the sample, nor read it
assign-values : (n : ℕ) (a : Float) (vs : List Float) (x : Float)
    → assigned a_rate n a (sounding vs x) ≡ sounding (assigned a_rate n a (sounding vs zero_f)).values x
unfolding assigned
assign-values n a vs x = by-test (eqb (rate_of n) a_rate) (λ e. rw e) (λ e. rw e)

passes : (t : Statements) (vs : List Float) (x : Float) → Passes t vs x (pass a_rate t (sounding vs x))
unfolding pass outputs_of fold outputs
passes done vs x = record { values = refl; sample = refl }
passes (assign n e t) vs x =
    let r = passes t (assigned a_rate n (value vs e) (sounding vs zero_f)).values in
    record {
      values =
          ap (λ (s : Sounding). (pass a_rate t s).values) (assign-values n (value vs e) vs x)
          ∙ (r x).values
          ∙ sym (ap (λ (s : Sounding). (pass a_rate t s).values) (assign-values n (value vs e) vs zero_f));
      sample = ap (λ (s : Sounding). (pass a_rate t s).sample) (assign-values n (value vs e) vs x) ∙ (r x).sample;
    }
passes (output e t) vs x =
    record {
      values = (passes t vs (add binary32 x (value vs e))).values ∙ sym (passes t vs (add binary32 zero_f (value vs e))).values;
      sample = (passes t vs (add binary32 x (value vs e))).sample;
    }
passes (branch e a b t) vs x =
    let r = go (truth (value vs e)) (passes a vs) (passes b vs) (passes t) in record { values = r.0; sample = r.1 }
  where
    chosen : (p : Statements) → ((x : Float) → Passes p vs x (pass a_rate p (sounding vs x)))
        → ((us : List Float) (y : Float) → Passes t us y (pass a_rate t (sounding us y)))
        → (x : Float) → ((pass a_rate t (pass a_rate p (sounding vs x))).values ≡ after_pass t (after_pass p vs))
        × ((pass a_rate t (pass a_rate p (sounding vs x))).sample ≡ with_outputs x (outputs_of p vs ++ outputs_of t (after_pass p vs)))
    chosen p q r x =
        let w = with_outputs x (outputs_of p vs) in
        let e : pass a_rate p (sounding vs x) ≡ sounding (after_pass p vs) w = λ i. sounding ((q x).values i) ((q x).sample i) in (
          ap (λ (s : Sounding). (pass a_rate t s).values) e ∙ (r (after_pass p vs) w).values,
          ap (λ (s : Sounding). (pass a_rate t s).sample) e ∙ (r (after_pass p vs) w).sample
              ∙ sym (fold-append (add binary32) x (outputs_of p vs) (outputs_of t (after_pass p vs))),
        )

    go : (g : Bool) → ((x : Float) → Passes a vs x (pass a_rate a (sounding vs x))) → ((x : Float) → Passes b vs x (pass a_rate b (sounding vs x)))
        → ((us : List Float) (y : Float) → Passes t us y (pass a_rate t (sounding us y)))
        → ((pass a_rate t (cond g (pass a_rate a (sounding vs x)) (pass a_rate b (sounding vs x)))).values
        ≡ (pass a_rate t (cond g (pass a_rate a (sounding vs zero_f)) (pass a_rate b (sounding vs zero_f)))).values)
        × ((pass a_rate t (cond g (pass a_rate a (sounding vs x)) (pass a_rate b (sounding vs x)))).sample
        ≡ with_outputs x (cond g (outputs_of a vs) (outputs_of b vs) ++ outputs_of t (cond g (after_pass a vs) (after_pass b vs))))
    go true p q r = ((chosen a p r x).0 ∙ sym (chosen a p r zero_f).0, (chosen a p r x).1)
    go false p q r = ((chosen b q r x).0 ∙ sym (chosen b q r zero_f).0, (chosen b q r x).1)

record AllPasses (t : Statements) (vs mix : List Float) (p : Played) : Type 0 where
  values : p.values ≡ after_passes (length mix) t vs
  sums : p.mix ≡ zip_with with_outputs mix (outputs_in (length mix) t vs)

all-passes : (t : Statements) (mix vs : List Float) → AllPasses t vs mix (a_passes t vs mix)
unfolding a_passes zip_with outputs_in after_passes
all-passes t [] vs = record { values = refl; sums = refl }
all-passes t (x ∷ mix) vs =
    let p = passes t vs x in
    let r = all-passes t mix (after_pass t vs) in
    record {
      values = ap (λ (us : List Float). (a_passes t us mix).values) p.values ∙ r.values;
      sums = λ i. p.sample i ∷ (ap (λ (us : List Float). (a_passes t us mix).mix) p.values ∙ r.sums) i;
    }

length-outputs : (n : ℕ) (t : Statements) (vs : List Float) → length (outputs_in n t vs) ≡ n
unfolding outputs_in
length-outputs zero t vs = refl
length-outputs (suc n) t vs = ap suc (length-outputs n t (after_pass t vs))

tree-adds : (is : List Instrument) → Adding (tree_voices is) (claims.held_after is) (claims.outputs_in is)
unfolding tree_voices cycle
tree-adds is =
    record {
      every = λ n s. length-outputs n (body_of is s.instrument) (k_pass (body_of is s.instrument) s.values);
      state = λ s mix i.
          record {
            instrument = s.instrument;
            values = (all-passes (body_of is s.instrument) mix (k_pass (body_of is s.instrument) s.values)).values i;
          };
      mix = λ s mix. (all-passes (body_of is s.instrument) mix (k_pass (body_of is s.instrument) s.values)).sums;
    }

pub outputs-sum : OutputsSum
unfolding SamplesSum
outputs-sum is before =
    samples-sum (tree_voices is) (claims.held_after is) (claims.outputs_in is) (tree-adds is) before
