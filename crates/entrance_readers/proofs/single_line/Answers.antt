use borrow.Author.Rules.{rules}
use Rattle.entrance_readers.proofs.Gathering.{alone-read, alone-refused}
use Rattle.entrance_readers.proofs.single_line.Goals as goal

pub returns-then-is_taken : goal.returns-then-is_taken
returns-then-is_taken c =
    search alone-read

pub returns-else-is_taken : goal.returns-else-is_taken
returns-else-is_taken c =
    search alone-refused
