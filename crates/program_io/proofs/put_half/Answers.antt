use Rattle.std.proofs.Common.{◌∙◌}
use Rattle.program_io.proofs.Bytes.{big-half}
use Rattle.program_io.proofs.Putting.{put_same}
use Rattle.program_io.proofs.put_half.Goals as goal

pub returns : goal.returns
returns c = put_same (c.to_be_bytes.ensures ∙ big-half c.args.half) c.put_bytes.ensures
