use native.Mathlib.Omega.{arith}
use Rattle.text_elements.proofs.Parts.{word-starts, word_on, word-no, word-is}
use Rattle.text_elements.proofs.word_at.Goals as goal

pub loop-b-init : goal.loop-b-init
loop-b-init c =
    search word-starts

pub overflow_add-p : goal.overflow_add-p
overflow_add-p c =
    omega (arith, c.starts_with.ensures.within c.if-not-starts_with.false)

pub returns-then-not-starts_with : goal.returns-then-not-starts_with
returns-then-not-starts_with c =
    search word-no

pub loop-b-preserved : goal.loop-b-preserved
loop-b-preserved c =
    search word_on

pub returns : goal.returns
returns c =
    search word-is
