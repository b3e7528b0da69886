-- A line's fields by its format, their bits and keypad numbers, and what the writer of lines gives. Definitions only.
use Rattle.std.specs.Prelude.{ℕ, ◌+◌, ◌-◌, Bool, ◌&&◌, List, [], ◌++◌, ◌≡◌, leb, length, replicate}
use Rattle.base_answer.specs.declared.Answer.{Answer}
use Rattle.base_bitstream.specs.Fields.{farthest, over, pick}
use Rattle.score_line.specs.Reading.{keypad_line}
use Rattle.score_line.specs.declared.Line.{Line}
use Rattle.base_formats.specs.Format.{Field, field_bits, field_words}
use Rattle.base_formats.specs.Description.{format}
use Rattle.score_line.specs.LineFormat.{slot_words, line}

-- each field with its width and its number
abbrev pub line_fields : Line → List Field
line_fields l = (format line).fields l []

unfoldable pub line_before : Line → List Bool → List Bool
unfolding field_bits
line_before l rest = field_bits (line_fields l) rest

unfoldable pub line_bits : Line → List Bool
unfolding line_before
line_bits l = line_before l []

unfoldable pub line_words : Line → List ℕ
unfolding field_words
line_words l = field_words (line_fields l)

-- zeros to the end of a slot
unfoldable pub to_slot : List ℕ → List ℕ
to_slot l = l ++ replicate (slot_words - length l) 0

-- the fault that reading would meet in a line as it stands, 0 for none
unfoldable pub line_fault : Line → Answer
line_fault l = (keypad_line (line_words l)).answer

-- a line's slot in an area of words: its keypad numbers, then zeros
unfoldable pub line_slot : Line → List ℕ
line_slot l = to_slot (line_words l)

-- whether n bits from a position on are within that many bits, and near enough to be read there
unfoldable pub bits_fit : ℕ → ℕ → ℕ → Bool
bits_fit bits at n = leb (at + n) farthest && leb (at + n) bits

-- bits with a line written over them, and the position past it; unchanged, and the position itself, where it has no room
unfoldable pub line_over : List Bool → ℕ → Line → List Bool
line_over bits at l = pick (bits_fit (length bits) at (length (line_bits l))) (over bits at (line_bits l)) bits

unfoldable pub past_line : List Bool → ℕ → Line → ℕ
past_line bits at l = pick (bits_fit (length bits) at (length (line_bits l))) (at + length (line_bits l)) at

-- what writing a line leaves and answers
pub record LineWritten (old : List Bool) (at : ℕ) (l : Line) (new : List Bool) (p : ℕ) : Type 0 where
  pub past : p ≡ past_line old at l
  pub leaves : new ≡ line_over old at l
