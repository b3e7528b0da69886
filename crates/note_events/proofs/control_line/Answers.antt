use mathlib.Core.Path.{refl}
use Rattle.note_pool.proofs.Steps.{over-self}
use Rattle.note_events.proofs.control_line.Goals as goal

pub returns-in-Control : goal.returns-in-Control
returns-in-Control c =
    (c.control_notes.ensures.0, rw c.in-Control.is c.control_notes.ensures.1)

pub returns-in-Instr : goal.returns-in-Instr
returns-in-Instr c =
    (refl, rw c.in-Instr.is (over-self c.args.v.count c.args.v.notes))

pub returns-in-End : goal.returns-in-End
returns-in-End c =
    (refl, rw c.in-End.is (over-self c.args.v.count c.args.v.notes))

pub returns-in-Tempo : goal.returns-in-Tempo
returns-in-Tempo c =
    (refl, rw c.in-Tempo.is (over-self c.args.v.count c.args.v.notes))
