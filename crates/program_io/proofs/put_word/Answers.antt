use Rattle.std.proofs.Common.{◌∙◌}
use Rattle.program_io.proofs.Bytes.{big-word}
use Rattle.program_io.proofs.Putting.{put_same}
use Rattle.program_io.proofs.put_word.Goals as goal

pub returns : goal.returns
returns c = put_same (c.to_be_bytes.ensures ∙ big-word c.args.word) c.put_bytes.ensures
