use Rattle.std.proofs.Common.{◌*◌, arith}
use Rattle.program_io.proofs.Reading.{word-past}
use Rattle.program_io.proofs.nth_word.Goals as goal

pub returns-else-i-s : goal.returns-else-i-s
returns-else-i-s c = word-past c.args.s.now (4 * c.args.i) (omega arith)
