use borrow.Author.Rules.{rules}
use Rattle.entrance_admission.proofs.Pushing.{unit-brings}
use Rattle.entrance_burst.proofs.submit_unit.Goals as goal

pub returns : goal.returns
returns c =
    search unit-brings
