use Rattle.text_number_writer.proofs.Pushing.{push-room, push-full}
use mathlib.Core.Path.{sym}
use Rattle.text_number_writer.proofs.push.Goals as goal

pub returns-then-len-lt128 : goal.returns-then-len-lt128
returns-then-len-lt128 c =
    sym (push-room _ _ c.if-len-lt128.true)

pub returns : goal.returns
returns c =
    sym (push-full _ _ c.if-len-lt128.false)
