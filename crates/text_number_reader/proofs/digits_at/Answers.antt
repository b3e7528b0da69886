use Rattle.text_number_reader.proofs.Readers.{starts, ends_outside, too_large, again, ends}
use Rattle.text_number_reader.proofs.digits_at.Goals as goal

pub loop-i-init : goal.loop-i-init
loop-i-init c =
    search starts

pub returns-then-b-lt-ZERO : goal.returns-then-b-lt-ZERO
returns-then-b-lt-ZERO c =
    search (ends_outside, c.then-b-lt-ZERO.either)

pub returns-then-most-n : goal.returns-then-most-n
returns-then-most-n c =
    search too_large

pub loop-i-preserved : goal.loop-i-preserved
loop-i-preserved c =
    search again

pub returns : goal.returns
returns c =
    search ends
