use borrow.Author.Rules.{rules}
use Rattle.text_line_writer.proofs.Pieces.{values-start, values-again, values-cut, values-end}
use Rattle.text_line_writer.proofs.with_values.Goals as goal

pub loop-i-init : goal.loop-i-init
loop-i-init c =
    search values-start

pub loop-i-preserved : goal.loop-i-preserved
loop-i-preserved c =
    search (values-again, rules, c.in_ok-text.was)

pub returns-in_err-text : goal.returns-in_err-text
returns-in_err-text c =
    search (values-cut, rules, c.in_err-text.was)

pub returns : goal.returns
returns c =
    search (values-end, rules)
