use Rattle.orchestra_reader.proofs.Judging.{cells}
use Rattle.orchestra_reader.proofs.Ending.{finished-kept, finished-not}
use borrow.Author.Rules.{rules}
use Rattle.orchestra_reader.proofs.finished.Goals as goal

pub slice_bounds-rules_answer-end : goal.slice_bounds-rules_answer-end
slice_bounds-rules_answer-end c =
    search cells

pub slice_bounds-rules_answer-end-2 : goal.slice_bounds-rules_answer-end-2
slice_bounds-rules_answer-end-2 c =
    search cells

pub returns-then-is_taken : goal.returns-then-is_taken
returns-then-is_taken c =
    finished-kept _ _ _ _ c.rules_answer-a.ensures.answer c.is_taken.ensures c.rules_answer-a.ensures.names c.if-is_taken.true c.accepted.ensures

pub returns-else-is_taken : goal.returns-else-is_taken
returns-else-is_taken c =
    finished-not c.args.ops c.args.args c.args.vals c.args.length c.rules_answer-a.ensures.answer c.is_taken.ensures c.if-is_taken.false c.refused.ensures
