-- A score's lines as the code walks over them. Definitions only.
use Rattle.std.specs.Prelude.{ℕ, zero, suc, ◌-◌, ◌≡◌, Bool, List, [], ◌∷◌}
use Rattle.base_bitstream.specs.Fields.{read_at}
use Rattle.std.specs.Prelude.{Option, Some, None}
use Rattle.score_line.specs.Reading.{line_at}
use Rattle.score_line.specs.declared.Line.{Line}
use Rattle.score_line.specs.declared.LineRead.{LineRead}
use Rattle.score_reader.specs.declared.ScoreRead.{ScoreRead}
use Rattle.score_reader.specs.declared.Cursor.{Cursor}
use Rattle.score_reader.specs.declared.Step.{Step}
use Rattle.score_reader.specs.Score.{lines_from, Score, all}

-- what the call gives: all but the lines
abbrev pub score_read_of : Score → ScoreRead
score_read_of s = record { answer = s.answer; line = s.line }

-- ---- the second pass over an accepted score: a cursor and the next line

-- before the first line
abbrev pub start_of : Option (ℕ × ℕ) → Cursor
start_of (Some r) = record { at = r.1; left = r.0 }
start_of None = record { at = 0; left = 0 }

unfoldable pub first_of : List Bool → Cursor
first_of bits = start_of (read_at bits 0 20)

-- what reading a line gives, and the cursor past it
abbrev pub step_of : ℕ → LineRead → Step
step_of left r = record { answer = r.answer; line = r.line; rest = record { at = r.next; left = left - 1 } }

unfoldable pub next_of : List Bool → Cursor → Step
next_of bits c = step_of c.left (line_at bits c.at)

-- the lines that n steps pass
unfoldable pub walked : List Bool → ℕ → Cursor → List Line
walked bits zero c = []
walked bits (suc n) c = (next_of bits c).line ∷ walked bits n (next_of bits c).rest

-- these lines lie ahead of a cursor
pub record Ahead (bits : List Bool) (c : Cursor) (ls : List Line) : Type 0 where
  pub number : ℕ
  pub end : ℕ
  pub are : lines_from bits c.left number c.at ≡ all ls end
