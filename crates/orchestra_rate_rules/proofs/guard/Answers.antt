use Rattle.orchestra_rate_rules.proofs.Rated.{guard-a, guard-k, guard-i}
use Rattle.orchestra_rate_rules.proofs.guard.Goals as goal

pub returns-then-q-gt0 : goal.returns-then-q-gt0
returns-then-q-gt0 c =
    search guard-a

pub returns-then-q-gt0-2 : goal.returns-then-q-gt0-2
returns-then-q-gt0-2 c =
    search guard-k

pub returns : goal.returns
returns c =
    search guard-i
