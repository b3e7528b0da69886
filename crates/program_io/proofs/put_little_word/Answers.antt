use Rattle.std.proofs.Common.{◌∙◌}
use Rattle.program_io.proofs.Bytes.{little-word}
use Rattle.program_io.proofs.Putting.{put_same}
use Rattle.program_io.proofs.put_little_word.Goals as goal

pub returns : goal.returns
returns c = put_same (c.to_le_bytes.ensures ∙ little-word c.args.word) c.put_bytes.ensures
