use Rattle.orchestra_reader.proofs.Marking.{marked-room, marked-full, marked-not}
use borrow.Author.Rules.{rules}
use Rattle.orchestra_reader.proofs.with_start.Goals as goal

pub returns-then-count-lt-MOST_INSTRUMENTS : goal.returns-then-count-lt-MOST_INSTRUMENTS
returns-then-count-lt-MOST_INSTRUMENTS c =
    search marked-room

pub returns-else-count-lt-MOST_INSTRUMENTS : goal.returns-else-count-lt-MOST_INSTRUMENTS
returns-else-count-lt-MOST_INSTRUMENTS c =
    search marked-full

pub returns-else-op-eq-INSTR : goal.returns-else-op-eq-INSTR
returns-else-op-eq-INSTR c =
    search marked-not
