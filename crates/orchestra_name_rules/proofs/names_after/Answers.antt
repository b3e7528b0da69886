use borrow.Author.Rules.{rules}
use Rattle.orchestra_name_rules.proofs.Entering.{n-declare, n-full, n-instr}
use Rattle.orchestra_name_rules.proofs.names_after.Goals as goal

pub returns-then-count-lt-MOST_NAMES : goal.returns-then-count-lt-MOST_NAMES
returns-then-count-lt-MOST_NAMES c =
    record { room = search rules; is = search n-declare }

pub returns-else-count-lt-MOST_NAMES : goal.returns-else-count-lt-MOST_NAMES
returns-else-count-lt-MOST_NAMES c =
    record { room = search rules; is = search n-full }

pub returns-in-Instr : goal.returns-in-Instr
returns-in-Instr c =
    record { room = search rules; is = search n-instr }
