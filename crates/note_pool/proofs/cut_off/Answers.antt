use mathlib.Core.Path.{◌≡◌, ap, ◌∙◌}
use Prim.Native.Nat.{ℕ, ◌+◌, ◌-◌}
use native.Mathlib.Omega.{arith}
use lib.ListN.{length, take, length-set}
use Rattle.player_model.specs.Lists.{over}
use Rattle.note_pool.specs.Notes.{without_element}
use Rattle.note_pool.proofs.Cutting.{moved_none, moved-one}
use Rattle.note_pool.proofs.cut_off.Goals as goal

pub overflow_sub-m : goal.overflow_sub-m
overflow_sub-m c =
    omega (arith, c.requires.0)

pub loop-i-init : goal.loop-i-init
loop-i-init c =
    (omega arith, omega (arith, c.requires.0), omega (arith, c.requires.0), c.requires.1, omega arith, moved_none _ _)

pub loop-i-preserved : goal.loop-i-preserved
loop-i-preserved c =
    let l : length c.args.v.notes ≡ 16 = omega arith in (
      omega arith,
      omega arith,
      c.loop-i.invariant.2,
      c.loop-i.invariant.3,
      simp length-set c.loop-i.invariant.4,
      moved-one _ _ _ _ _ c.loop-i.invariant.0 (omega (arith, l, c.loop-i.invariant.2, c.loop-i.invariant.3)) c.loop-i.invariant.5,
    )

pub with_miss-requires : goal.with_miss-requires
with_miss-requires c =
    omega (arith, c.requires.2)

pub returns : goal.returns
returns c =
    let i : c.loop-i.i + 1 ≡ c.args.v.count = omega (arith, c.loop-i.invariant.1, c.loop-i.invariant.2, c.loop-i-test.false) in (
      c.with_miss.ensures.0 ∙ c.loop-i.invariant.5 ∙ ap (λ (k : ℕ). over (without_element c.args.place (take k c.args.v.notes)) c.args.v.notes) i,
      omega (arith, c.with_miss.ensures.1, c.loop-i.invariant.2),
      c.with_miss.ensures.2,
    )
