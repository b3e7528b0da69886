use native.Mathlib.Omega.{arith}
use Rattle.entrance_readers.proofs.Gathering.{text-told, text-start, text-stands, text-steps, gather-next, gather-end}
use Rattle.entrance_readers.proofs.text_lines.Goals as goal

pub loop-i-init : goal.loop-i-init
loop-i-init c =
    let pre = c.requires in
    (omega (arith, c.min-m.ensures), text-start _ pre.s_value _ pre.count_value _ c.min-m.ensures _ c.blank_line-none.ensures)

pub unwrap-next-requires : goal.unwrap-next-requires
unwrap-next-requires c =
    text-stands _ _ _ _ _ _ c.loop-i-test.true c.loop-i.invariant.1 c.line_at.ensures

pub loop-i-preserved : goal.loop-i-preserved
loop-i-preserved c =
    let at = c.loop-i in
    (at.invariant.0, gather-next _ _ _ _ _ _ (omega arith) at.invariant.1 _ _ (text-steps _ _ _ c.line_at.ensures c.unwrap-next.ensures))

pub returns : goal.returns
returns c =
    gather-end _ _ (text-told _) c.requires.s_value _ _ _ _ c.loop-i-test.false c.loop-i.invariant.1
