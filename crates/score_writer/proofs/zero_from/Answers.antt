use Rattle.score_writer.proofs.Area.{zero_more, zero-no, zero-end}
use Rattle.score_writer.proofs.zero_from.Goals as goal

pub loop-i-preserved : goal.loop-i-preserved
loop-i-preserved c =
    search zero_more

pub returns-then-words-i-ne0 : goal.returns-then-words-i-ne0
returns-then-words-i-ne0 c =
    search zero-no

pub returns : goal.returns
returns c =
    search zero-end
