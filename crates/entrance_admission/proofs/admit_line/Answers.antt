use borrow.Author.Rules.{rules}
use Rattle.entrance_admission.proofs.Pushing.{line-untimed, line-admitted}
use Rattle.entrance_admission.proofs.admit_line.Goals as goal

pub returns-then-lacks_time : goal.returns-then-lacks_time
returns-then-lacks_time c =
    line-untimed _ _ _ _ _ c.lacks_time.ensures c.if-lacks_time.true

pub returns : goal.returns
returns c =
    line-admitted _ _ _ _ _ c.lacks_time.ensures c.if-lacks_time.false _ c.field_count_for.ensures _ c.admit.ensures
