use Rattle.text_number_writer.proofs.Pushing.{word-again, word-ends}
use Rattle.text_number_writer.proofs.push_word.Goals as goal

pub loop-b-preserved : goal.loop-b-preserved
loop-b-preserved c =
    search word-again

pub returns : goal.returns
returns c =
    search word-ends
