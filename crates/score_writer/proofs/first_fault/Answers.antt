use Rattle.score_writer.proofs.Area.{check-start, check-more, check-stop, check-end}
use Rattle.score_writer.proofs.first_fault.Goals as goal

pub loop-i-init : goal.loop-i-init
loop-i-init c =
    search check-start

pub loop-i-preserved : goal.loop-i-preserved
loop-i-preserved c =
    search check-more

pub returns-then-not-is_taken : goal.returns-then-not-is_taken
returns-then-not-is_taken c =
    search check-stop

pub returns : goal.returns
returns c =
    search check-end
