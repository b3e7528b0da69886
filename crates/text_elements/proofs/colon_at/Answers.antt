use native.Mathlib.Omega.{arith}
use Rattle.text_elements.proofs.Parts.{colon-is, colon-no}
use Rattle.text_elements.proofs.colon_at.Goals as goal

pub overflow_add-p : goal.overflow_add-p
overflow_add-p c =
    omega (arith, c.starts_with.ensures.within c.if-starts_with.true)

pub returns-then-starts_with : goal.returns-then-starts_with
returns-then-starts_with c =
    search colon-is

pub returns : goal.returns
returns c =
    search colon-no
