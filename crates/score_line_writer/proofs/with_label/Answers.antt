use borrow.Author.Rules.{rules}
use Rattle.score_line_writer.proofs.Packs.{labelled, unlabelled}
use Rattle.score_line_writer.proofs.with_label.Goals as goal

pub returns-in-Labelled : goal.returns-in-Labelled
returns-in-Labelled c =
    search labelled

pub returns-in-Unlabelled : goal.returns-in-Unlabelled
returns-in-Unlabelled c =
    search unlabelled
