use mathlib.Core.Path.{◌≡◌, ap, ◌∙◌}
use Prim.Native.Nat.{ℕ, ◌-◌, min}
use native.Mathlib.Omega.{arith}
use lib.ListN.{take}
use Rattle.base_laws.proofs.Lists.{take_min}
use Rattle.code_interpreter.specs.Passes.{fresh_of}
use Rattle.note_lifecycle.proofs.Values.{take-both}
use Rattle.note_lifecycle.proofs.fresh_values.Goals as goal

pub returns : goal.returns
returns c =
    let a = c.args in
    let e : c.min-n.result - 0 ≡ min a.fields (min a.count 8) = omega (arith, c.min-n.ensures, c.min.ensures) in
    c.initial_values.ensures ∙ ap fresh_of (ap (λ (k : ℕ). take k a.given) e ∙ take-both a.fields (min a.count 8) a.given
    ∙ ap (take a.fields) (take_min a.given a.count 8 (omega arith)))
