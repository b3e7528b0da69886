use mathlib.Core.Path.{refl}
use native.Mathlib.Omega.{arith}
use borrow.Author.Rules.{rules}
use borrow.Author.Tests.{not-true, not-false}
use Rattle.note_lifecycle.proofs.OneNote.{born-yields, born-alone, born-priority}
use Rattle.note_pool.proofs.Steps.{start_none, start-room, start-full}
use Rattle.note_pool.proofs.Cutting.{none-to-cut, start-cut}
use Rattle.note_events.proofs.Rendered.{born-found, start-instr}
use Rattle.note_events.proofs.start_line.Goals as goal

pub returns-then-v-most : goal.returns-then-v-most
returns-then-v-most c =
    start-room _ _ c.args.v _ _ c.well_formed.1.1.1.0.1.1.0.1.0.1 c.if-v-most.true c.requires.3 c.with_note.ensures
    (start-instr _ _ _ _ _ _ _ _ _ _ _ c.in-Instr.is _ (born-found _ _ _ _ _ _ _ _ _ c.instrument_or_blank-x.ensures _ c.note_from_line-note.ensures))

pub returns-then-not-l : goal.returns-then-not-l
returns-then-not-l c =
    start-full _ _ c.args.v _ _ c.well_formed.1.1.1.0.1.1.0.1.0.1 c.if-v-most.false c.requires.0 c.with_miss.ensures
    (start-instr _ _ _ _ _ _ _ _ _ _ _ c.in-Instr.is _ refl) (born-yields _ _ _ _ _ _ _ _ _ (not-true _ c.if-not-l.true))

pub returns-then-v-place : goal.returns-then-v-place
returns-then-v-place c =
    start-full _ _ c.args.v _ _ c.well_formed.1.1.1.0.1.1.0.1.0.1 c.if-v-most.false c.requires.0 c.with_miss-then-v-place.ensures
    (start-instr _ _ _ _ _ _ _ _ _ _ _ c.in-Instr.is _ refl)
    (born-alone _ _ _ _ _ _ _ _ _ (none-to-cut c.args.v c.well_formed.1.1.1.0.1.1.0.1.0.1 c.requires.0 _ c.oldest_without_priority-place.ensures c.if-v-place.true))

pub cut_off-requires : goal.cut_off-requires
cut_off-requires c =
    search (rules, c.requires)

pub with_note-requires-in-Instr : goal.with_note-requires-in-Instr
with_note-requires-in-Instr c =
    omega (arith, c.cut_off.ensures.1, c.requires.0)

pub returns-else-v-place : goal.returns-else-v-place
returns-else-v-place c =
    let born = born-found _ _ _ _ _ _ _ _ _ c.instrument_or_blank-x-in-Instr.ensures _ c.note_from_line-note-in-Instr.ensures in
    start-cut _ _ c.args.v _ _ _ c.well_formed.1.1.1.0.1.1.0.1.0.1 c.if-v-most.false c.requires.0
    (born-priority _ _ _ _ _ _ _ _ _ born (not-false _ c.if-not-l.false)) _ c.oldest_without_priority-place.ensures (omega (arith, c.if-v-place.false))
    c.cut_off.ensures c.with_note-in-Instr.ensures
    (start-instr _ _ _ _ _ _ _ _ _ _ _ c.in-Instr.is _ born)

pub returns-in-Control : goal.returns-in-Control
returns-in-Control c =
    rw c.in-Control.is (start_none c.args.v c.requires.0)

pub returns-in-End : goal.returns-in-End
returns-in-End c =
    rw c.in-End.is (start_none c.args.v c.requires.0)

pub returns-in-Tempo : goal.returns-in-Tempo
returns-in-Tempo c =
    rw c.in-Tempo.is (start_none c.args.v c.requires.0)
