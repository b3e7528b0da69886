use Rattle.text_line_writer.proofs.Pieces.{byte-first}
use Rattle.text_line_writer.proofs.next_name.Goals as goal

pub returns : goal.returns
returns c =
    search byte-first
