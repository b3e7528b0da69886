use Rattle.text_line_writer.proofs.Forms.{begun-plain, begun-star}
use Rattle.text_line_writer.proofs.begun.Goals as goal

pub returns-then-priority : goal.returns-then-priority
returns-then-priority c =
    search begun-star

pub returns : goal.returns
returns c =
    search begun-plain
