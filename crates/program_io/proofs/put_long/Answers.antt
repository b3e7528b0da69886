use Rattle.std.proofs.Common.{◌∙◌}
use Rattle.program_io.proofs.Bytes.{big-long}
use Rattle.program_io.proofs.Putting.{put_same}
use Rattle.program_io.proofs.put_long.Goals as goal

pub returns : goal.returns
returns c = put_same (c.to_be_bytes.ensures ∙ big-long c.args.long) c.put_bytes.ensures
