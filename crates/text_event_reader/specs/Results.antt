-- What reading a line of text gives. Definitions only.
use Rattle.std.specs.Prelude.{ℕ, ◌-◌, Bool, cond, List, length, Float, Option, Some, None}
use Rattle.std.specs.Option.{unwrap_or}
use Rattle.std.proofs.Math.Option.{Option as Label}
use Rattle.base_answer.specs.declared.Answer.TheVariants.{BadText}
use Rattle.text_numerals.specs.inside.Reading.{Read, got, refused, and_then, starts_with, rest}
use Rattle.score_line.specs.Reading.{line_read, refused_line}
use Rattle.score_line.specs.declared.LineRead.{LineRead}
use Rattle.text_format.specs.Content.{Content, line_content}
use Rattle.text_format.specs.Content as content
use Rattle.text_format.specs.Form.{newline}
use Rattle.text_format.specs.inside.Reading.{ending, next_name, next_number, content_at}
use Rattle.text_content.specs.Judged.{kept_of}
use Rattle.text_content.specs.declared.ValueBits.{ValueBits}

-- the position among bytes where the rest of them begins
abbrev pub position : List ℕ → List ℕ → ℕ
position s after = length s - length after

-- ---- values

abbrev pub no_values : Option (ValueBits × ℕ)
no_values = None

unfoldable pub values_told : List ℕ → Read (List Float) → Option (ValueBits × ℕ)
values_told s (got vs after) = Some (kept_of vs, position s after)
values_told s refused = no_values

-- ---- a line

abbrev pub no_line : Option (LineRead × ℕ)
no_line = None

-- a line that was read, judged by the stick's rules
unfoldable pub line_told : List ℕ → Read Content → Option (LineRead × ℕ)
line_told s (got x after) = Some (line_read (line_content x), position s after)
line_told s refused = no_line

-- a line that has to end here
unfoldable pub ended_at : List ℕ → LineRead → List ℕ → Option (LineRead × ℕ)
ended_at s read bs = cond (starts_with newline bs) (Some (read, position s (rest bs))) no_line

-- what was read, and the position past it; where no line stands, a refused line and no position
abbrev pub step_of : Option (LineRead × ℕ) → LineRead × ℕ
step_of o = unwrap_or o (refused_line BadText, 0)

-- ---- parts of the definition of a line

-- an event with the time before it
abbrev pub at_time : Bool → Float → Read content.Event → Read Content
at_time priority t x = and_then x (λ e r. got (content_at priority t e) r)

-- behind `control`
abbrev pub setting_from : Label ℕ → List ℕ → Read content.Event
setting_from label bs = and_then (next_name bs) (λ name q. and_then (next_number q) (λ v p. ending (content.control label name v) p))
