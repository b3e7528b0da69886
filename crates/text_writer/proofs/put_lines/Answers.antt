use Rattle.text_writer.proofs.Passing.{lay-start, lay-there, lay-fits, lay-more, lay-length, lay-end}
use Rattle.text_writer.proofs.put_lines.Goals as goal

pub loop-i-init : goal.loop-i-init
loop-i-init c =
    search lay-start

pub unwrap-text-requires : goal.unwrap-text-requires
unwrap-text-requires c =
    search lay-there

pub put_text-p-requires : goal.put_text-p-requires
put_text-p-requires c =
    search lay-fits

pub loop-i-preserved : goal.loop-i-preserved
loop-i-preserved c =
    search lay-more

pub shape_of-out : goal.shape_of-out
shape_of-out c =
    search lay-length

pub returns : goal.returns
returns c =
    search lay-end
