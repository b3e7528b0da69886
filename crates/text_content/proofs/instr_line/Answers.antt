use borrow.Author.Rules.{rules}
use Rattle.text_content.proofs.Words.{instr-labelled, instr-plain}
use Rattle.text_content.proofs.instr_line.Goals as goal

pub returns-in-Labelled : goal.returns-in-Labelled
returns-in-Labelled c =
    search instr-labelled

pub returns-in-Unlabelled : goal.returns-in-Unlabelled
returns-in-Unlabelled c =
    search instr-plain
