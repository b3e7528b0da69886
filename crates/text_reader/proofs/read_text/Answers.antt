use Rattle.text_reader.proofs.LineLoop.{starts, too_many, stops, again, ends}
use Rattle.text_reader.proofs.read_text.Goals as goal

pub loop-at-init : goal.loop-at-init
loop-at-init c =
    search starts

pub returns-then-i-ge-MOST_LINES : goal.returns-then-i-ge-MOST_LINES
returns-then-i-ge-MOST_LINES c =
    search too_many

pub returns-in_default : goal.returns-in_default
returns-in_default c =
    search stops

pub loop-at-preserved : goal.loop-at-preserved
loop-at-preserved c =
    search again

pub returns : goal.returns
returns c =
    search ends
