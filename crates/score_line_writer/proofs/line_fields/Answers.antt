use borrow.Author.Rules.{rules}
use Rattle.score_line_writer.proofs.Packs.{room-first, room-field, room-event, room-values, line-packed}
use Rattle.score_line_writer.proofs.line_fields.Goals as goal

pub with_when-a-requires : goal.with_when-a-requires
with_when-a-requires c =
    search room-first

pub with_field-b-requires : goal.with_field-b-requires
with_field-b-requires c =
    (search room-field, search rules)

pub with_event-c-requires : goal.with_event-c-requires
with_event-c-requires c =
    search room-event

pub with_values-requires : goal.with_values-requires
with_values-requires c =
    search room-values

pub returns : goal.returns
returns c =
    search line-packed
