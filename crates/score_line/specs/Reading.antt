-- Reading a line from any source, by its format, and what the calls give. Definitions only.
use Rattle.std.specs.Prelude.{ℕ, Bool, false, cond, List, [], length, eqb, Float}
use Rattle.base_answer.specs.Numbers.{is_taken}
use Rattle.base_answer.specs.declared.Answer.{Answer}
use Rattle.base_answer.specs.declared.Answer.TheVariants as answer
use Rattle.base_formats.specs.Format.{Source, bit_source, keypad_source, Read, got, refused}
use Rattle.base_formats.specs.Description.{format}
use Rattle.base_formats.specs.declared.Fault.{Fault}
use Rattle.base_formats.specs.declared.Fault.TheVariants as fault
use Rattle.score_line.specs.LineFormat.{padded, line}
use Rattle.score_line.specs.declared.When.{When}
use Rattle.score_line.specs.declared.When.TheVariants.{Untimed}
use Rattle.score_line.specs.declared.Event.{Event}
use Rattle.score_line.specs.declared.Event.TheVariants.{End}
use Rattle.score_line.specs.declared.Line.{Line}
use Rattle.score_line.specs.declared.LineRead.{LineRead}

abbrev pub line_from : Source → ℕ → Read Line
line_from s at = (format line).from s at

-- a line of these parts, its count the number of its values
unfoldable pub line_of : When → Bool → Event → List Float → Line
line_of w priority e xs = record { when = w; priority = priority; event = e; count = length xs; values = padded xs }

-- ---- what the calls give

-- a fault's number stands in document 01's table
unfoldable pub answer_of : Fault → Answer
answer_of fault.CutShort = answer.CutShort
answer_of fault.NotCarried = answer.NotCarried
answer_of fault.OutOfRange = answer.OutOfRange
answer_of fault.TooManyValues = answer.TooManyValues

-- a line for places that hold none
abbrev pub blank_line : Line
blank_line = line_of Untimed false End []

-- a refusal has a blank line and the position 0
unfoldable pub refused_line : Answer → LineRead
refused_line a = record { answer = a; line = blank_line; next = 0 }

unfoldable pub line_read : Read Line → LineRead
line_read (got l p) = record { answer = answer.Taken; line = l; next = p }
line_read (refused f) = refused_line (answer_of f)

-- a line somewhere among bits
unfoldable pub line_at : List Bool → ℕ → LineRead
line_at bits at = line_read (line_from (bit_source bits) at)

-- a line somewhere among keypad numbers
unfoldable pub line_in_words : List ℕ → ℕ → LineRead
line_in_words words at = line_read (line_from (keypad_source words) at)

-- a whole keypad line: numbers left over give 11, after every other fault
unfoldable pub whole_run : ℕ → LineRead → LineRead
whole_run n r = cond (is_taken r.answer) (cond (eqb r.next n) r (refused_line answer.LeftOver)) r

unfoldable pub keypad_line : List ℕ → LineRead
keypad_line words = whole_run (length words) (line_in_words words 0)
