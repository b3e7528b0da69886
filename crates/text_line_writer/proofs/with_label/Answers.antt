use Rattle.text_line_writer.proofs.Pieces.{label-joins, no_label}
use Rattle.text_line_writer.proofs.with_label.Goals as goal

pub returns-in-Labelled : goal.returns-in-Labelled
returns-in-Labelled c =
    search label-joins

pub returns-in-Unlabelled : goal.returns-in-Unlabelled
returns-in-Unlabelled c =
    search no_label
