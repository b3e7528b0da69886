use Rattle.text_writer.proofs.Passing.{copy_start, copy-length, copy-room, copy_more, copy-end}
use Rattle.text_writer.proofs.put_text.Goals as goal

pub loop-i-init : goal.loop-i-init
loop-i-init c =
    search copy_start

pub bounds-out-at : goal.bounds-out-at
bounds-out-at c =
    search copy-room

pub loop-i-preserved : goal.loop-i-preserved
loop-i-preserved c =
    search copy_more

pub shape_of-out : goal.shape_of-out
shape_of-out c =
    search copy-length

pub returns : goal.returns
returns c =
    search copy-end
