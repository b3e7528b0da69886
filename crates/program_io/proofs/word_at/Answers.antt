use Rattle.program_io.proofs.Reading.{word-is}
use Rattle.program_io.proofs.word_at.Goals as goal

pub returns : goal.returns
returns c = word-is c.args.s.now c.args.at c.byte_at.ensures c.byte_after.ensures c.byte_after-2.ensures c.byte_after-3.ensures c.from_be_bytes.ensures
