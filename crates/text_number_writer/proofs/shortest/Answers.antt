use Rattle.text_number_writer.proofs.ShortestText.{start, on, done, never}
use Rattle.text_number_writer.proofs.shortest.Goals as goal

pub loop-d-init : goal.loop-d-init
loop-d-init c =
    search start

pub returns-in-Some : goal.returns-in-Some
returns-in-Some c =
    search done

pub loop-d-preserved : goal.loop-d-preserved
loop-d-preserved c =
    search on

pub returns : goal.returns
returns c =
    search never
