use Rattle.text_decoder.proofs.Texts.{fill_start, fill_more, fill_end}
use Rattle.text_decoder.proofs.fill.Goals as goal

pub loop-i-init : goal.loop-i-init
loop-i-init c =
    search fill_start

pub loop-i-preserved : goal.loop-i-preserved
loop-i-preserved c =
    search fill_more

pub shape_of-area : goal.shape_of-area
shape_of-area c =
    c.loop-i.invariant.same

pub returns : goal.returns
returns c =
    search fill_end
