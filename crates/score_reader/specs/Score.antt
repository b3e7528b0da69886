-- Whole scores and access units, read: document 01, "Score lines, bit by bit". Definitions only.
use Rattle.std.specs.Prelude.{ℕ, zero, suc, Bool, cond, List, [], ◌∷◌, eqb}
use Rattle.base_answer.specs.Numbers.{is_taken}
use Rattle.base_answer.specs.declared.Answer.{Answer}
use Rattle.base_answer.specs.declared.Answer.TheVariants.{Taken, CutShort, NotCarried, LeftOver}
use Rattle.base_bitstream.specs.Fields.{read_at}
use Rattle.base_bitstream.specs.Filling.{filled}
use Rattle.std.specs.Prelude.{Option, Some, None}
use Rattle.base_formats.specs.Format.{bit_source, Read, got, refused}
use Rattle.base_formats.specs.declared.Fault.{Fault}
use Rattle.score_line.specs.Reading.{line_from, line_at, refused_line, answer_of}
use Rattle.score_line.specs.declared.Line.{Line}
use Rattle.score_line.specs.declared.LineRead.{LineRead}

-- ---- the lines of a score

-- the lines and the position past them, or the first fault and the number of its line
pub data Lines : Type 0 where
  all : List Line → ℕ → Lines
  faulty : Fault → ℕ → Lines

abbrev pub before : Line → Lines → Lines
before l (all ls p) = all (l ∷ ls) p
before l (faulty f i) = faulty f i

-- the line of number i, then those from the position past it on
abbrev pub line_then : Read Line → ℕ → (ℕ → Lines) → Lines
line_then (got l p) i others = before l (others p)
line_then (refused f) i others = faulty f i

-- n lines without gap from a position on, the first of them number i
unfoldable pub lines_from : List Bool → ℕ → ℕ → ℕ → Lines
lines_from bits zero i at = all [] at
lines_from bits (suc n) i at = line_then (line_from (bit_source bits) at) i (λ p. lines_from bits n (suc i) p)

-- ---- a whole score

-- an answer, the number of the line that it is about, and the lines of an accepted score
pub record Score : Type 0 where
  pub answer : Answer
  pub line : ℕ
  pub lines : List Line

abbrev pub taken : List Line → Score
taken ls = record { answer = Taken; line = 0; lines = ls }

abbrev pub refused_score : Answer → ℕ → Score
refused_score a i = record { answer = a; line = i; lines = [] }

-- past the last line: zero bits to a whole byte
unfoldable pub ended : List Bool → Lines → Score
ended bits (all ls p) = cond (filled bits p) (taken ls) (refused_score LeftOver 0)
ended bits (faulty f i) = refused_score (answer_of f) i

-- the number of lines, then the lines
unfoldable pub counted : List Bool → Option (ℕ × ℕ) → Score
counted bits (Some r) = ended bits (lines_from bits r.0 0 r.1)
counted bits None = refused_score CutShort 0

unfoldable pub score_of : List Bool → Score
score_of bits = counted bits (read_at bits 0 20)

-- ---- an access unit

-- one line, then zero bits to a whole byte
unfoldable pub whole_line : List Bool → LineRead → LineRead
whole_line bits r = cond (is_taken r.answer) (cond (filled bits r.next) r (refused_line LeftOver)) r

-- two bits 00, then the line
unfoldable pub opened : List Bool → Option (ℕ × ℕ) → LineRead
opened bits (Some r) = cond (eqb r.0 0) (whole_line bits (line_at bits r.1)) (refused_line NotCarried)
opened bits None = refused_line CutShort

unfoldable pub unit_of : List Bool → LineRead
unit_of bits = opened bits (read_at bits 0 2)
