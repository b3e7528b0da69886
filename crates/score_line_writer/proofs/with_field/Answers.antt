use borrow.Author.Rules.{rules}
use Rattle.score_line_writer.proofs.Packs.{one_more}
use Rattle.score_line_writer.proofs.with_field.Goals as goal

pub returns : goal.returns
returns c =
    search one_more
