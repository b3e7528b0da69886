use Prim.Native.Nat.{◌≤◌, ◌-◌}
use native.Mathlib.Omega.{arith}
use Rattle.base_bitstream.specs.Bits.{bits_of}
use Rattle.score_reader.specs.Score.{score_of}
use Rattle.score_reader.specs.inside.Walk.{Ahead}
use Rattle.entrance_readers.proofs.Gathering.{score-told, Gathered, score-start, score-steps, gather-next, gather-end}
use Rattle.entrance_readers.proofs.score_lines.Goals as goal

pub loop-i-init : goal.loop-i-init
loop-i-init c = (
  omega (arith, c.min-m.ensures),
  score-start _ c.requires _ c.first-c.ensures _ c.min-m.ensures _ c.blank_line-none.ensures,
)

pub loop-i-preserved : goal.loop-i-preserved
loop-i-preserved c =
    let at = c.loop-i in
    (at.invariant.0, gather-next _ _ _ _ _ _ (omega arith) at.invariant.1 _ _ (score-steps _ _ _ c.next-step.ensures))

pub returns : goal.returns
returns c =
    gather-end _ _ (score-told _) c.requires _ _ _ _ c.loop-i-test.false c.loop-i.invariant.1
