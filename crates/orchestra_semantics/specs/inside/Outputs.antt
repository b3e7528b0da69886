-- What a note outputs: the values of its output statements, in statement order, in each sample of a cycle.
use Rattle.std.specs.Prelude.{ℕ, zero, suc, cond, List, [], ◌∷◌, ◌++◌, Float}
use Rattle.orchestra_syntax.specs.Tree.{Statements, done, assign, output, branch}
use Rattle.orchestra_syntax.specs.inside.Program.{zero_f}
use Rattle.base_float32.specs.Builtins.{truth}
use Rattle.orchestra_semantics.specs.inside.Placed.{value, a_rate, sounding, assigned, pass}

-- a note's values after an a pass; no statement reads the sample
abbrev pub after_pass : Statements → List Float → List Float
after_pass t vs = (pass a_rate t (sounding vs zero_f)).values

-- the outputs of one a pass
unfoldable pub outputs_of : Statements → List Float → List Float
outputs_of done vs = []
outputs_of (assign n e t) vs = outputs_of t (assigned a_rate n (value vs e) (sounding vs zero_f)).values
outputs_of (output e t) vs = value vs e ∷ outputs_of t vs
outputs_of (branch e a b t) vs =
    cond (truth (value vs e)) (outputs_of a vs) (outputs_of b vs)
    ++ outputs_of t (cond (truth (value vs e)) (after_pass a vs) (after_pass b vs))

-- the outputs of n a passes, a list for each sample, and the values behind them
unfoldable pub outputs_in : ℕ → Statements → List Float → List (List Float)
outputs_in zero t vs = []
outputs_in (suc n) t vs = outputs_of t vs ∷ outputs_in n t (after_pass t vs)

unfoldable pub after_passes : ℕ → Statements → List Float → List Float
after_passes zero t vs = vs
after_passes (suc n) t vs = after_passes n t (after_pass t vs)
