use Rattle.text_number_reader.proofs.Bytes.{starts-here, starts-past}
use Rattle.text_number_reader.proofs.starts_with.Goals as goal

pub returns-then-at-s : goal.returns-then-at-s
returns-then-at-s c =
    search starts-here

pub returns-else-at-s : goal.returns-else-at-s
returns-else-at-s c =
    search starts-past
