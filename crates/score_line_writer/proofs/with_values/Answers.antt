use borrow.Author.Rules.{rules}
use Rattle.score_line.specs.LineFormat.{values}
use Rattle.score_line_writer.proofs.Packs.{values-instr, values-none}
use Rattle.score_line_writer.proofs.with_values.Goals as goal

pub returns-in-Instr : goal.returns-in-Instr
returns-in-Instr c =
    search values-instr

pub returns-in-Control : goal.returns-in-Control
unfolding values
returns-in-Control c =
    search values-none

pub returns-in-End : goal.returns-in-End
unfolding values
returns-in-End c =
    search values-none

pub returns-in-Tempo : goal.returns-in-Tempo
unfolding values
returns-in-Tempo c =
    search values-none
