use borrow.Author.Rules.{rules}
use Rattle.orchestra_name_rules.proofs.Entering.{t-instr, t-full}
use Rattle.orchestra_name_rules.proofs.titles_after.Goals as goal

pub returns-then-heads-lt-MOST_INSTRUMENTS : goal.returns-then-heads-lt-MOST_INSTRUMENTS
returns-then-heads-lt-MOST_INSTRUMENTS c =
    record { room = search rules; is = search t-instr }

pub returns-else-heads-lt-MOST_INSTRUMENTS : goal.returns-else-heads-lt-MOST_INSTRUMENTS
returns-else-heads-lt-MOST_INSTRUMENTS c =
    record { room = search rules; is = search t-full }
