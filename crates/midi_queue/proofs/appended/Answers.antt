use Prim.Native.Nat.{ℕ}
use mathlib.Core.Path.{◌≡◌, ap, ◌∙◌}
use mathlib.Core.List.{◌++◌}
use native.Mathlib.Omega.{arith}
use lib.ListN.{take}
use Rattle.player_model.specs.Lists.{over}
use Rattle.midi_queue.proofs.Behind.{behind-none, behind_more}
use Rattle.midi_queue.proofs.appended.Goals as goal

pub loop-i-init : goal.loop-i-init
loop-i-init c =
    (omega arith, c.requires, c.well_formed.0.1.0.1, c.well_formed.1.1.0.1.0.1, behind-none c.args.list c.args.more c.args.n (omega (arith, c.requires, c.well_formed.0.1.0.1)))

pub loop-i-preserved : goal.loop-i-preserved
loop-i-preserved c =
    let i = c.loop-i.invariant in
    (omega arith, i.1, i.2, i.3, behind_more _ _ _ _ _ _ (omega (arith, i.3)) (omega (arith, i.2)) i.4)

pub returns : goal.returns
returns c =
    let e : c.loop-i.i ≡ c.args.m = omega (arith, c.loop-i.invariant.0) in
    c.loop-i.invariant.4 ∙ ap (λ (k : ℕ). over (take c.args.n c.args.list ++ take k c.args.more) c.args.list) e
