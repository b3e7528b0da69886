use Rattle.std.proofs.Common.{rules}
use Rattle.program_io.specs.Bytes.{in_two_bytes}
use Rattle.program_io.proofs.in_two_bytes.Goals as goal

pub returns : goal.returns
unfolding in_two_bytes
returns c = search rules
