use Rattle.score_line_reader.proofs.Lines.{event-instr, event-other}
use Rattle.score_line_reader.proofs.after_event.Goals as goal

pub returns-in-Instr : goal.returns-in-Instr
returns-in-Instr c =
    search event-instr

pub returns-in_default : goal.returns-in_default
returns-in_default c =
    search event-other
