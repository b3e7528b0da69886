use borrow.Author.Rules.{rules}
use Prim.Native.Nat.{ℕ, ◌-◌}
use mathlib.Core.Path.{◌≡◌, ap, ◌∙◌}
use native.Mathlib.Omega.{arith}
use lib.ListN.{take}
use Rattle.score_line.specs.Reading.{keypad_line}
use Rattle.score_line.specs.declared.LineRead.{LineRead}
use Rattle.score_line_writer.proofs.first_answer.Goals as goal

pub returns : goal.returns
returns c =
    let a = c.args in
    let e : a.n - 0 ≡ a.n = omega arith in
    ap (λ (r : LineRead). r.answer) c.keypad_line-read.ensures ∙ ap (λ (k : ℕ). (keypad_line (take k a.words.now)).answer) e
