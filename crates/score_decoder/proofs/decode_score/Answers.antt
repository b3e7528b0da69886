use borrow.Author.Rules.{rules}
use Rattle.score_decoder.proofs.Slots.{is-told, score-taken, score-short, score-refused}
use Rattle.score_decoder.proofs.decode_score.Goals as goal

pub returns-then-count-area : goal.returns-then-count-area
returns-then-count-area c =
    search (is-told, score-taken)

pub returns-then-is_taken : goal.returns-then-is_taken
returns-then-is_taken c =
    search (is-told, score-short)

pub returns : goal.returns
returns c =
    search (is-told, score-refused)
