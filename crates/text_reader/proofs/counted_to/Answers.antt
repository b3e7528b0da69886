use Rattle.text_reader.proofs.LineLoop.{counted-all, counted-fault}
use Rattle.text_reader.proofs.counted_to.Goals as goal

pub returns-then-is_taken : goal.returns-then-is_taken
returns-then-is_taken c =
    search counted-all

pub returns : goal.returns
returns c =
    search counted-fault
