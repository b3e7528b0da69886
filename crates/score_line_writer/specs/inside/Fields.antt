-- The fields of a line's parts, as the functions of the code write them. Definitions only.
use Rattle.std.specs.Prelude.{ℕ, Bool, List, [], Float}
use Rattle.std.specs.Float.{binary32}
use Rattle.std.specs.Float.Ieee.{to_bits}
use Rattle.base_bitstream.specs.Bits.{digit}
use Rattle.base_formats.specs.Format.{Field, of}
use Rattle.base_formats.specs.Description.{format}
use Rattle.score_line.specs.LineFormat.{when, label, kind, body, event_parts, kind_of, values, values_of}
use Rattle.score_line.specs.declared.When.{When}
use Rattle.score_line.specs.declared.Label.{Label}
use Rattle.score_line.specs.declared.Event.{Event}

-- ---- the fields of each part, before those that follow, as the code's functions put them

abbrev pub flag : Bool → Field
flag b = of 1 (digit b)

-- a float, by its bits
abbrev pub float : Float → Field
float x = of 32 (to_bits binary32 x)

abbrev pub when_before : When → List Field → List Field
when_before w rest = (format when).fields w rest

abbrev pub label_before : Label → List Field → List Field
label_before l rest = (format label).fields l rest

abbrev pub event_before : Event → List Field → List Field
event_before e rest = (format kind).fields (kind_of e) ((format (body (kind_of e))).fields (event_parts e).1 rest)

abbrev pub value_fields : Event → ℕ → List Float → List Field
value_fields e n xs = (format (values (kind_of e))).fields (values_of (kind_of e) n xs) []
