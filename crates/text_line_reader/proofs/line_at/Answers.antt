use native.Mathlib.Omega.{arith}
use Rattle.text_line_reader.proofs.LineParts.{line-starred, line_plain}
use Rattle.text_line_reader.proofs.line_at.Goals as goal

pub overflow_add-at : goal.overflow_add-at
overflow_add-at c =
    omega (arith, c.starts_with.ensures.within c.if-starts_with.true)

pub returns-then-starts_with : goal.returns-then-starts_with
returns-then-starts_with c =
    search line-starred

pub returns : goal.returns
returns c =
    search line_plain
