use Rattle.text_elements.proofs.Parts.{number-next, number-none}
use Rattle.text_elements.proofs.next_number.Goals as goal

pub returns-in_err-gap_at : goal.returns-in_err-gap_at
returns-in_err-gap_at c =
    search (number-none, c.in_err-gap_at.was)

pub returns : goal.returns
returns c =
    search (number-next, c.in_ok-gap_at.was)
