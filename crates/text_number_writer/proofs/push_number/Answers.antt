use Rattle.text_number_writer.proofs.Pushing.{number_is}
use Rattle.text_number_writer.proofs.push_number.Goals as goal

pub returns : goal.returns
returns c =
    search number_is
