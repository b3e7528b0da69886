use borrow.Author.Rules.{rules}
use Rattle.text_content.proofs.Words.{control-labelled, control-plain}
use Rattle.text_content.proofs.control_line.Goals as goal

pub returns-in-Labelled : goal.returns-in-Labelled
returns-in-Labelled c =
    search control-labelled

pub returns-in-Unlabelled : goal.returns-in-Unlabelled
returns-in-Unlabelled c =
    search control-plain
