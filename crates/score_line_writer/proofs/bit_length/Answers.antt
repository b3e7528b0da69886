use borrow.Author.Rules.{rules}
use Rattle.score_line_writer.proofs.Writes.{bits_are}
use Rattle.score_line_writer.proofs.bit_length.Goals as goal

pub returns : goal.returns
returns c =
    search bits_are
