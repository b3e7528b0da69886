use Rattle.score_line.specs.Reading.{line_read}
use Rattle.score_line_reader.proofs.told.Goals as goal

pub returns-in-Ok : goal.returns-in-Ok
unfolding line_read
returns-in-Ok c =
    rw c.in-Ok.is

pub returns-in-Err : goal.returns-in-Err
unfolding line_read
returns-in-Err c =
    rw c.in-Err.is c.faulty.ensures
