use Rattle.text_number_writer.proofs.Pushing.{name-is}
use Rattle.text_number_writer.proofs.push_name.Goals as goal

pub returns : goal.returns
returns c =
    search name-is
