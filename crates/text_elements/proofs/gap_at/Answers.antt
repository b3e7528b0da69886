use Rattle.text_elements.proofs.Parts.{gap_is, gap-no}
use Rattle.text_elements.proofs.gap_at.Goals as goal

pub returns-then-starts_with : goal.returns-then-starts_with
returns-then-starts_with c =
    search gap_is

pub returns : goal.returns
returns c =
    search gap-no
