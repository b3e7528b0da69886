use borrow.Author.Rules.{rules}
use Rattle.score_writer.proofs.Ends.{score-taken, score-short, score-many, score-refused}
use Rattle.score_writer.proofs.write_score.Goals as goal

pub returns-then-bytes-out : goal.returns-then-bytes-out
returns-then-bytes-out c =
    search (score-taken, c.slice_known-then-bytes-out-1.given, c.slice_known-1.given)

pub returns-then-n-le-MOST_LINES : goal.returns-then-n-le-MOST_LINES
returns-then-n-le-MOST_LINES c =
    search score-short

pub returns-then-is_taken : goal.returns-then-is_taken
returns-then-is_taken c =
    search score-many

pub returns : goal.returns
returns c =
    search score-refused
