-- A line as a slot can hold it, valid or not, and the line that is meant by it. Definitions only.
use Rattle.std.specs.Prelude.{ℕ, Bool, true, ◌&&◌, eqb, leb, length, take}
use Rattle.std.specs.Float.{binary32}
use Rattle.std.specs.Float.Ieee.{fits}
use Rattle.base_formats.specs.Format.{all}
use Rattle.score_line.specs.LineFormat.{used, padded}
use Rattle.score_line.specs.declared.When.{When}
use Rattle.score_line.specs.declared.When.TheVariants.{Timed, Untimed}
use Rattle.score_line.specs.declared.Label.{Label}
use Rattle.score_line.specs.declared.Label.TheVariants.{Unlabelled, Labelled}
use Rattle.score_line.specs.declared.Event.{Event}
use Rattle.score_line.specs.declared.Event.TheVariants.{Instr, Control, End, Tempo}
use Rattle.score_line.specs.declared.Line.{Line}

abbrev pub is_symbol : ℕ → Bool
is_symbol n = leb n 65535

abbrev pub stored_when : When → Bool
stored_when Untimed = true
stored_when (Timed late t) = fits binary32 t

abbrev pub stored_label : Label → Bool
stored_label Unlabelled = true
stored_label (Labelled n) = is_symbol n

abbrev pub stored_event : Event → Bool
stored_event (Instr label instrument duration) = stored_label label && (is_symbol instrument && fits binary32 duration)
stored_event (Control label variable value) = is_symbol label && (is_symbol variable && fits binary32 value)
stored_event End = true
stored_event (Tempo tempo) = fits binary32 tempo

-- every float has 32 bits, every symbol 16, and there are eight places for values: a line as its type says
abbrev pub stored : Line → Bool
stored l = stored_when l.when && (stored_event l.event && (eqb (length l.values) 8 && all (fits binary32) l.values))

-- a line as it is meant: the places that it does not use are zero, and a line that is no instr line has no values
abbrev pub normalized : Line → Line
normalized l = record { when = l.when; priority = l.priority; event = l.event; count = used l; values = padded (take (used l) l.values) }
