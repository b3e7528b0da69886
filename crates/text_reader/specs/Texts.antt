-- What the reading of a whole text gives, and the second pass over a text that is taken. Definitions only.
use Rattle.std.specs.Prelude.{ℕ, zero, suc, ◌≡◌, cond, List, [], ◌∷◌, length, drop, Option}
use Rattle.base_answer.specs.Numbers.{is_taken}
use Rattle.base_answer.specs.declared.Answer.{Answer}
use Rattle.base_answer.specs.declared.Answer.TheVariants.{Taken, BadText}
use Rattle.score_line.specs.declared.Line.{Line}
use Rattle.score_reader.specs.Score.{Score, all}
use Rattle.score_reader.specs.declared.ScoreRead.{ScoreRead}
use Rattle.text_format.specs.Content.{Content, judged_from}
use Rattle.text_format.specs.inside.Reading.{line_from, lines, lines_from}
use Rattle.score_line.specs.declared.LineRead.{LineRead}
use Rattle.text_event_reader.specs.Results.{line_told, step_of}
use Rattle.text_reader.specs.declared.TextRead.{TextRead}

-- all but the lines, and their number
unfoldable pub text_told : Score → TextRead
text_told s = record { answer = s.answer; line = s.line; count = length s.lines }

-- ---- the one pass

abbrev pub bad_at : ℕ → TextRead
bad_at i = record { answer = BadText; line = i; count = 0 }

-- the first fault so far, and the answer of line i
unfoldable pub first_of : ScoreRead → Answer → ℕ → ScoreRead
first_of fault answer i = cond (is_taken fault.answer) (cond (is_taken answer) fault (record { answer = answer; line = i })) fault

-- past i lines, the first fault or none
unfoldable pub counted_to : ScoreRead → ℕ → TextRead
counted_to fault i = cond (is_taken fault.answer) (record { answer = Taken; line = 0; count = i }) (record { answer = fault.answer; line = fault.line; count = 0 })

-- ---- the second pass: line by line, each from the position past the line before

-- the line at a position, and the position past it
abbrev pub line_at : List ℕ → ℕ → Option (LineRead × ℕ)
line_at s at = line_told s (line_from (drop at s))

-- the lines that n steps pass
unfoldable pub walked : List ℕ → ℕ → ℕ → List Line
walked s zero at = []
walked s (suc n) at = (step_of (line_at s at)).0.line ∷ walked s n (step_of (line_at s at)).1

-- these lines lie ahead of a position
pub record Ahead (s : List ℕ) (at : ℕ) (ls : List Line) : Type 0 where
  pub bound : ℕ
  pub number : ℕ
  pub content : List Content
  pub end : ℕ
  pub there : lines_from bound number (drop at s) ≡ lines content
  pub are : judged_from number content ≡ all ls end
