use Rattle.text_number_writer.proofs.Pushing.{whole_is}
use Rattle.text_number_writer.proofs.push_whole.Goals as goal

pub returns : goal.returns
returns c =
    search whole_is
