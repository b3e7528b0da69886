use Rattle.text_number_writer.proofs.Pushing.{sign-minus, sign-plain}
use Rattle.text_number_writer.proofs.push_sign.Goals as goal

pub returns-then-minus : goal.returns-then-minus
returns-then-minus c =
    search sign-minus

pub returns : goal.returns
returns c =
    search sign-plain
