use Rattle.text_number_writer.proofs.Pushing.{no-decimals, some-decimals}
use Rattle.text_number_writer.proofs.push_decimals.Goals as goal

pub returns-then-d-eq0 : goal.returns-then-d-eq0
returns-then-d-eq0 c =
    search no-decimals

pub returns : goal.returns
returns c =
    search some-decimals
