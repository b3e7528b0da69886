use Rattle.program_io.proofs.Putting.{joined-itself, put_same}
use Rattle.program_io.proofs.put_bytes.Goals as goal

pub returns : goal.returns
returns c = put_same (joined-itself c.args.s.now) c.put_each.ensures
