use borrow.Author.Rules.{rules}
use Rattle.score_decoder.proofs.Slots.{is-told, unit-taken, unit-short, unit-refused}
use Rattle.score_decoder.proofs.decode_unit.Goals as goal

pub returns-then-area-ge-SLOT : goal.returns-then-area-ge-SLOT
returns-then-area-ge-SLOT c =
    search (is-told, unit-taken)

pub returns-then-is_taken : goal.returns-then-is_taken
returns-then-is_taken c =
    search (is-told, unit-short)

pub returns : goal.returns
returns c =
    search (is-told, unit-refused)
