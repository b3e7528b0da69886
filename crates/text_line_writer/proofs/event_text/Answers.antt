use Rattle.text_line_writer.proofs.Forms.{as-event}
use Rattle.text_line_writer.proofs.event_text.Goals as goal

pub returns-in-Instr : goal.returns-in-Instr
returns-in-Instr c =
    search as-event

pub returns-in-Control : goal.returns-in-Control
returns-in-Control c =
    search as-event

pub returns-in-End : goal.returns-in-End
returns-in-End c =
    search as-event

pub returns-in-Tempo : goal.returns-in-Tempo
returns-in-Tempo c =
    search as-event
