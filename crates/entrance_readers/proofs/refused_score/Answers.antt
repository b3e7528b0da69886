use borrow.Author.Rules.{rules}
use Rattle.entrance_readers.proofs.Gathering.{refused-handed}
use Rattle.entrance_readers.proofs.refused_score.Goals as goal

pub returns : goal.returns
returns c =
    refused-handed _ _ _ _ c.blank_line-none.ensures
