use Rattle.std.proofs.Common.{◌∙◌}
use Rattle.program_io.proofs.Bytes.{little-half}
use Rattle.program_io.proofs.Putting.{put_same}
use Rattle.program_io.proofs.put_little_half.Goals as goal

pub returns : goal.returns
returns c = put_same (c.to_le_bytes.ensures ∙ little-half c.args.half) c.put_bytes.ensures
