use Rattle.score_bursts.proofs.Walk.{judge-start, judge-many, judge-cut-length, judge-cut-unit, judge-next, judge-end}
use Rattle.score_bursts.proofs.scan.Goals as goal

pub loop-at-init : goal.loop-at-init
loop-at-init c =
    judge-start _

pub returns-then-n-eq-MOST_UNITS : goal.returns-then-n-eq-MOST_UNITS
returns-then-n-eq-MOST_UNITS c =
    search judge-many

pub returns-then-left-lt-LENGTH_BYTES : goal.returns-then-left-lt-LENGTH_BYTES
returns-then-left-lt-LENGTH_BYTES c =
    search judge-cut-length

pub returns-then-left-length : goal.returns-then-left-length
returns-then-left-length c =
    search judge-cut-unit

pub loop-at-preserved : goal.loop-at-preserved
loop-at-preserved c =
    search judge-next

pub returns : goal.returns
returns c =
    search judge-end
