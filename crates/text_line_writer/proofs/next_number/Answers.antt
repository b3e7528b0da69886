use Rattle.text_line_writer.proofs.Pieces.{next-joins}
use Rattle.text_line_writer.proofs.next_number.Goals as goal

pub returns : goal.returns
returns c =
    search next-joins
