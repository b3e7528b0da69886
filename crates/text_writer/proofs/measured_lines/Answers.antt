use Rattle.text_writer.proofs.Passing.{count-start, count-more, count_room, count-stop, count-end}
use Rattle.text_writer.proofs.measured_lines.Goals as goal

pub loop-i-init : goal.loop-i-init
loop-i-init c =
    search count-start

pub overflow_add-total : goal.overflow_add-total
overflow_add-total c =
    search count_room

pub loop-i-preserved : goal.loop-i-preserved
loop-i-preserved c =
    search count-more

pub returns-in_default : goal.returns-in_default
returns-in_default c =
    search count-stop

pub returns : goal.returns
returns c =
    search count-end
