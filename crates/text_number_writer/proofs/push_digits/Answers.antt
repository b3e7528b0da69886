use native.Mathlib.Omega.{arith}
use mathlib.Core.Path.{refl}
use Rattle.text_number_writer.proofs.Pushing.{digits-again, digits-end}
use Rattle.text_number_writer.proofs.push_digits.Goals as goal

pub loop-j-init : goal.loop-j-init
loop-j-init c =
    (c.requires, refl)

pub loop-j-preserved : goal.loop-j-preserved
loop-j-preserved c =
    (omega arith, search digits-again)

pub returns : goal.returns
returns c =
    search digits-end
