use Rattle.text_elements.proofs.Parts.{spaces-start, spaces-stop, spaces-on, spaces-end}
use Rattle.text_elements.proofs.past_spaces.Goals as goal

pub loop-i-init : goal.loop-i-init
loop-i-init c =
    search spaces-start

pub returns-then-s-i-ne-SPACE : goal.returns-then-s-i-ne-SPACE
returns-then-s-i-ne-SPACE c =
    search spaces-stop

pub loop-i-preserved : goal.loop-i-preserved
loop-i-preserved c =
    search spaces-on

pub returns : goal.returns
returns c =
    search spaces-end
