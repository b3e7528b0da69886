use borrow.Author.Rules.{rules}
use Rattle.score_writer.proofs.Ends.{unit-taken, unit-short, unit-refused}
use Rattle.score_writer.proofs.write_unit.Goals as goal

pub returns-then-bytes-out : goal.returns-then-bytes-out
returns-then-bytes-out c =
    search (unit-taken, c.slice_known-then-bytes-out-1.given, c.slice_known-1.given)

pub returns-then-is_taken : goal.returns-then-is_taken
returns-then-is_taken c =
    search unit-short

pub returns : goal.returns
returns c =
    search unit-refused
