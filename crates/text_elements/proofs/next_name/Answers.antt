use Rattle.text_elements.proofs.Parts.{name-next, name-none}
use Rattle.text_elements.proofs.next_name.Goals as goal

pub returns-in_err-gap_at : goal.returns-in_err-gap_at
returns-in_err-gap_at c =
    search (name-none, c.in_err-gap_at.was)

pub returns : goal.returns
returns c =
    search (name-next, c.in_ok-gap_at.was)
