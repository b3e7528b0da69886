use borrow.Author.Rules.{rules}
use Rattle.score_line_reader.proofs.Lines.{run-whole, run-longer, run-refused}
use Rattle.score_line_reader.proofs.keypad_line.Goals as goal

pub returns-then-read-words : goal.returns-then-read-words
returns-then-read-words c =
    search run-whole

pub returns-then-is_taken : goal.returns-then-is_taken
returns-then-is_taken c =
    search run-longer

pub returns : goal.returns
returns c =
    search run-refused
