-- What is handed in at an entrance, read.
use Rattle.std.specs.Prelude.{Bool, ℕ, length, take, replicate}
use Rattle.score_line.specs.Reading.{blank_line}
use Rattle.score_reader.specs.Score.{Score}
use Rattle.player_model.specs.Lists.{over}
use Rattle.entrance_readers.specs.declared.EntranceRead.{EntranceRead}

-- as many lines as can wait, and one more
abbrev pub most_lines_read : ℕ
most_lines_read = 65

-- what was read, with the first of its lines
unfoldable pub entrance_read_of : Bool → Score → EntranceRead
entrance_read_of timed s =
    let first = take most_lines_read s.lines in
    record { timed = timed; answer = s.answer; line = s.line; lines = over first (replicate most_lines_read blank_line); count = length first }

-- what it holds, as a score
unfoldable pub score_in : EntranceRead → Score
score_in h = record { answer = h.answer; line = h.line; lines = take h.count h.lines }
