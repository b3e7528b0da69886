use borrow.Author.Rules.{rules}
use Rattle.panel.proofs.Entering.{change-over, change-open}
use Rattle.panel.proofs.change_unless_ended.Goals as goal

pub returns-then-ended : goal.returns-then-ended
returns-then-ended c =
    let e = change-over c.args.settings c.args.area.now c.args.handed.now c.if-ended.true in record { settings = e.0; area = e.1 }

pub returns : goal.returns
returns c =
    let q = c.change.ensures in
    let e = change-open c.args.settings c.args.area.now c.args.handed.now c.if-ended.false (q.value, q.area_after) in record { settings = e.0; area = e.1 }
