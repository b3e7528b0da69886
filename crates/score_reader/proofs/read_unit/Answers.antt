use borrow.Author.Rules.{rules}
use Rattle.score_reader.proofs.Readers.{unit-line, unit-other, unit-short}
use Rattle.score_reader.proofs.read_unit.Goals as goal

pub returns-then-kind-eq0 : goal.returns-then-kind-eq0
returns-then-kind-eq0 c =
    search unit-line

pub returns-else-kind-eq0 : goal.returns-else-kind-eq0
returns-else-kind-eq0 c =
    search unit-other

pub returns-in-None : goal.returns-in-None
returns-in-None c =
    search unit-short
