use borrow.Author.Rules.{rules}
use Rattle.score_line.specs.Reading.{answer_of}
use Rattle.score_line_reader.proofs.answer_of.Goals as goal

pub returns-in-CutShort : goal.returns-in-CutShort
unfolding answer_of
returns-in-CutShort c =
    rw c.in-CutShort.is

pub returns-in-NotCarried : goal.returns-in-NotCarried
unfolding answer_of
returns-in-NotCarried c =
    rw c.in-NotCarried.is

pub returns-in-OutOfRange : goal.returns-in-OutOfRange
unfolding answer_of
returns-in-OutOfRange c =
    rw c.in-OutOfRange.is

pub returns-in-TooManyValues : goal.returns-in-TooManyValues
unfolding answer_of
returns-in-TooManyValues c =
    rw c.in-TooManyValues.is
