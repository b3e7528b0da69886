-- A line's parts, as the functions of the code read them. Definitions only.
use Rattle.std.specs.Prelude.{ℕ, Bool, List, Float, Result, Ok, Err}
use Rattle.std.proofs.Math.Option.{some}
use Rattle.base_formats.specs.Format.{Source, Read, got, refused, and_then, small, named, found, times_from}
use Rattle.base_formats.specs.Description.{format}
use Rattle.base_formats.specs.declared.Fault.{Fault}
use Rattle.base_formats.specs.declared.Fault.TheVariants as fault
use Rattle.score_line.specs.LineFormat.{float, when_of, timed, when, label, Kind, instr, control, tempo, type_of, kinds, Body, body, labelled, event_of, event_parts, kind_of, counted, values, padded, line_with, after_time}
use Rattle.score_line.specs.declared.When.{When}
use Rattle.score_line.specs.declared.Label.{Label}
use Rattle.score_line.specs.declared.Event.{Event}
use Rattle.score_line.specs.declared.Line.{Line}
use Rattle.score_line.specs.declared.Range.{Range}
use Rattle.score_line.specs.declared.Range.TheVariants as range

-- ---- what is left of the format where each function of the code begins

abbrev pub small_from : Source → ℕ → ℕ → ℕ → Read ℕ
small_from s width most at = (small width most).from s at

abbrev pub float_from : Source → Range → ℕ → Read Float
float_from s r at = (format (float r)).from s at

unfoldable pub timed_from : Source → ℕ → Read When
timed_from s at = and_then (and_then ((format timed).from s at) (λ a q. got (some a) q)) (λ x q. got (when_of x) q)

abbrev pub when_from : Source → ℕ → Read When
when_from s at = (format when).from s at

abbrev pub label_from : Source → ℕ → Read Label
label_from s at = (format label).from s at

-- the event of what was read of its body
abbrev pub as_event : (k : Kind) → Read (Body k) → Read Event
as_event k r = and_then r (λ b q. got (event_of k b) q)

unfoldable pub instr_from : Source → ℕ → Read Event
instr_from s at = as_event instr ((format (body instr)).from s at)

unfoldable pub labelled_from : Source → ℕ → Read Event
labelled_from s at = as_event control ((format labelled).from s at)

unfoldable pub control_from : Source → ℕ → Read Event
control_from s at = as_event control ((format (body control)).from s at)

unfoldable pub tempo_from : Source → ℕ → Read Event
tempo_from s at = as_event tempo ((format (body tempo)).from s at)

-- the event of a line's type
unfoldable pub event_from : Source → ℕ → ℕ → Read Event
event_from s type at = and_then (found fault.NotCarried at (named type_of kinds type)) (λ k p. as_event k ((format (body k)).from s p))

abbrev pub values_from : Source → ℕ → ℕ → Read (List Float)
values_from s n at = times_from (format (float range.Value)) s n at

-- a line with the values that were read
unfoldable pub with_values : When → Bool → Event → ℕ → Read (List Float) → Read Line
with_values w priority e n r = and_then r (λ xs p. got (record { when = w; priority = priority; event = e; count = n; values = padded xs }) p)

unfoldable pub after_count : Source → When → Bool → Event → ℕ → Read Line
unfolding with_values
after_count s w priority e at = and_then ((format counted).from s at) (λ x p. with_values w priority e x.0 (got x.1 p))

unfoldable pub after_event : Source → When → Bool → Event → ℕ → Read Line
after_event s w priority e at = and_then ((format (values (kind_of e))).from s at) (λ x p. got (line_with (w, (priority, (kind_of e, ((event_parts e).1, x))))) p)

unfoldable pub after_when : Source → When → ℕ → Read Line
after_when s w at = and_then ((format after_time).from s at) (λ y q. got (line_with (w, y)) q)

-- ---- the code's results as readings

abbrev pub part_is : {A : Type 0} → Result (A × ℕ) Fault → Read A
part_is (Ok r) = got r.0 r.1
part_is (Err f) = refused f

abbrev pub number_is : Result (ℕ × ℕ) Fault → Read ℕ
number_is r = part_is r

abbrev pub real_is : Result (Float × ℕ) Fault → Read Float
real_is r = part_is r

abbrev pub when_is : Result (When × ℕ) Fault → Read When
when_is r = part_is r

abbrev pub label_is : Result (Label × ℕ) Fault → Read Label
label_is r = part_is r

abbrev pub event_is : Result (Event × ℕ) Fault → Read Event
event_is r = part_is r
