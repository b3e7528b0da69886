-- Inside: the two passes over the lines, one that measures and one that writes. Definitions only.
use Rattle.std.specs.Prelude.{ℕ, ◌+◌, ◌≤◌, ◌<◌, ◌≡◌, List, ◌++◌, length, take, drop, Result, Ok, Err}
use Rattle.std.proofs.Math.Option.{some}
use Rattle.text_number_writer.specs.Push.{line_room, content_of}
use Rattle.text_number_writer.specs.declared.LineText.{LineText}
use Rattle.text_format.specs.Form as form
use Rattle.text_format.specs.Form.{line_bytes, text_bytes}
use Rattle.score_writer.specs.Slots.{slot_read, area_lines}
use Rattle.score_writer.specs.Writing.{most_lines}
use Rattle.text_line_writer.specs.inside.LineText.{line_text}
use Rattle.text_writer.specs.Writing.{Text, all, lacking, text_from}

-- how many bytes a text has behind k others, or the first line that has none
abbrev pub measured_past : ℕ → Text → Result ℕ ℕ
measured_past k (all ws) = Ok (k + length (text_bytes ws))
measured_past k (lacking i) = Err i

-- n slots, few enough, and each of their texts has room in the code's line of text
pub record Measurable (area : List ℕ) (n : ℕ) : Type 0 where
  pub few : n ≤ most_lines
  pub short : (i : ℕ) → i < n → (w : form.TextLine) → line_text (slot_read area i).line ≡ some w → length (line_bytes w) ≤ line_room

-- and they all have a text, which has room
pub record Layable (area : List ℕ) (n room : ℕ) : Type 0 where
  pub measurable : Measurable area n
  pub lines : List form.TextLine
  pub are : text_from 0 (area_lines area n 0) ≡ all lines
  pub within : length (text_bytes lines) ≤ room

-- a line of text has room at a position
pub record Fits (room at : ℕ) (t : LineText) : Type 0 where
  pub whole : t.len ≤ line_room
  pub long : length t.bytes ≡ line_room
  pub within : at + t.len ≤ room

-- it stands there, all else is as it was, and p is the position past it
pub record Put (old : List ℕ) (at : ℕ) (t : LineText) (new : List ℕ) (p : ℕ) : Type 0 where
  pub past : p ≡ at + t.len
  pub stands : new ≡ take at old ++ (content_of t ++ drop (at + t.len) old)
