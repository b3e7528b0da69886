-- Lists of lines and the bytes of their scores and units: each is made of the other. Statements only; the proofs are in proofs/bytes.antt.
use Rattle.std.specs.Prelude.{ℕ, ◌≤◌, ◌≡◌, false, Bool, true, ◌&&◌, List, [], ◌∷◌, T, length}
use Rattle.std.specs.Float.{binary32}
use Rattle.std.specs.Float.Ieee.{of_bits}
use Rattle.base_answer.specs.declared.Answer.TheVariants.{Taken}
use Rattle.base_bitstream.specs.Bits.{bits_of}
use Rattle.score_line.specs.Reading.{line_of}
use Rattle.score_line.specs.declared.Line.{Line}
use Rattle.score_line.specs.declared.When.TheVariants.{Timed}
use Rattle.score_line.specs.declared.Event.TheVariants.{End}
use Rattle.score_line.specs.LineFormat.{valid}
use Rattle.score_reader.specs.Score.{taken, score_of, unit_of}
use Rattle.score_writer.specs.Writing.{score_bytes, unit_bytes, most_lines}
use Rattle.score_writer.specs.Claims.{Bytes}

-- every line valid
unfoldable pub all_valid : List Line → Bool
all_valid [] = true
all_valid (l ∷ ls) = valid l && all_valid ls

-- every list of at most 1,048,575 valid lines, written and read, is itself
abbrev pub ScoreBytesRead : Type 0
ScoreBytesRead = (ls : List Line) → T (all_valid ls) → length ls ≤ most_lines → score_of (bits_of (score_bytes ls)) ≡ taken ls

-- an accepted score has such lines, and read and written again it is the same bytes
pub record ScoreOfBytes (s : List ℕ) : Type 0 where
  pub valid-lines : T (all_valid (score_of (bits_of s)).lines)
  pub count : length (score_of (bits_of s)).lines ≤ most_lines
  pub bytes-are : score_bytes (score_of (bits_of s)).lines ≡ s

abbrev pub ScoreBytesWritten : Type 0
ScoreBytesWritten = (s : List ℕ) → Bytes s → (score_of (bits_of s)).answer ≡ Taken → ScoreOfBytes s

-- different valid scores have different bytes
abbrev pub ScoreBytesInjective : Type 0
ScoreBytesInjective =
    (ls ms : List Line) → T (all_valid ls) → T (all_valid ms) → length ls ≤ most_lines → length ms ≤ most_lines → score_bytes ls ≡ score_bytes ms → ls ≡ ms

-- ---- access units

pub record UnitRead (l : Line) : Type 0 where
  pub answer : (unit_of (bits_of (unit_bytes l))).answer ≡ Taken
  pub line : (unit_of (bits_of (unit_bytes l))).line ≡ l

abbrev pub UnitBytesRead : Type 0
UnitBytesRead = (l : Line) → T (valid l) → UnitRead l

abbrev pub UnitBytesWritten : Type 0
UnitBytesWritten = (s : List ℕ) → Bytes s → (unit_of (bits_of s)).answer ≡ Taken → T (valid (unit_of (bits_of s)).line) × (unit_bytes (unit_of (bits_of s)).line ≡ s)

abbrev pub UnitBytesInjective : Type 0
UnitBytesInjective = (l m : Line) → T (valid l) → T (valid m) → unit_bytes l ≡ unit_bytes m → l ≡ m

-- ---- document 01's worked score: one line, end at beat 1, neither flag set

abbrev pub end_at_beat1 : Line
end_at_beat1 = line_of (Timed false (of_bits binary32 0x3F800000)) false End []

abbrev pub Example : Type 0
Example = score_bytes (end_at_beat1 ∷ []) ≡ 0x00 ∷ (0x00 ∷ (0x18 ∷ (0xFE ∷ (0x00 ∷ (0x00 ∷ (0x01 ∷ (0x00 ∷ [])))))))
