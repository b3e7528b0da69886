use borrow.Author.Rules.{rules}
use Rattle.score_writer.proofs.Ends.{unit-room, unit-bits}
use Rattle.score_writer.proofs.put_unit.Goals as goal

pub fill_byte-requires : goal.fill_byte-requires
fill_byte-requires c =
    search unit-room

pub returns : goal.returns
returns c =
    search unit-bits
