use borrow.Author.Rules.{rules}
use Rattle.score_writer.proofs.Lays.{byte-filled}
use Rattle.score_writer.proofs.fill_byte.Goals as goal

pub returns : goal.returns
returns c =
    search byte-filled
