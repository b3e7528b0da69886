use Rattle.orchestra_rate_rules.proofs.Rated.{assigns-yes, assigns-no}
use borrow.Author.Rules.{rules}
use Rattle.orchestra_rate_rules.proofs.assigns.Goals as goal

pub returns-then-q-r : goal.returns-then-q-r
returns-then-q-r c =
    search assigns-yes
