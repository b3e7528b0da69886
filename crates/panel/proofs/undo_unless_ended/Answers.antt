use borrow.Author.Rules.{rules}
use Rattle.panel.proofs.Entering.{undo-over, undo-open}
use Rattle.panel.proofs.undo_unless_ended.Goals as goal

pub returns-then-ended : goal.returns-then-ended
returns-then-ended c =
    undo-over _ _ c.if-ended.true

pub returns : goal.returns
returns c =
    undo-open _ _ c.if-ended.false c.undo.ensures
