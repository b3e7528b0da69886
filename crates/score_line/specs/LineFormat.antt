-- The format of a score line: document 01, "Score lines, bit by bit". Reading, writing, valid lines and their lengths all follow from it.
-- Definitions only.
use Rattle.std.specs.Prelude.{ℕ, ◌-◌, min as lesser, Bool, true, ◌&&◌, List, [], ◌∷◌, ◌++◌, length, take, drop, replicate, eqb, leb, Float}
use Rattle.std.proofs.Math.Option.{Option, none, some}
use Rattle.std.specs.Float.{binary32}
use Rattle.std.specs.Float.Ieee.{of_bits, to_bits, fits}
use Rattle.base_timebase.specs.Time.{time_bits, duration_bits, tempo_bits, finite_bits}
use Rattle.base_formats.specs.declared.Fault.TheVariants as fault
use Rattle.base_formats.specs.Format.{all}
use Rattle.base_formats.specs.Description.{Description, field, small, flag, one_of, nothing, choose, pair, if_set, set_then, times, as-a, alike, format}
use Rattle.score_line.specs.declared.When.{When}
use Rattle.score_line.specs.declared.When.TheVariants.{Timed, Untimed}
use Rattle.score_line.specs.declared.Label.{Label}
use Rattle.score_line.specs.declared.Label.TheVariants.{Unlabelled, Labelled}
use Rattle.score_line.specs.declared.Event.{Event}
use Rattle.score_line.specs.declared.Event.TheVariants.{Instr, Control, End, Tempo}
use Rattle.score_line.specs.declared.Line.{Line}
use Rattle.score_line.specs.declared.Range.{Range}
use Rattle.score_line.specs.declared.Range.TheVariants as range

-- ---- symbols, floats, and the number of values

abbrev pub symbol : Description ℕ
symbol = small 16 65535

-- the ranges of a line's floats, by their bits
unfoldable pub in_range : Range → ℕ → Bool
in_range range.Time b = time_bits b
in_range range.Duration b = duration_bits b
in_range range.Tempo b = tempo_bits b
in_range range.Value b = finite_bits b

-- a float in its range
unfoldable pub float : Range → Description Float
float r = field 32 (in_range r) fault.OutOfRange (of_bits binary32) (to_bits binary32) (fits binary32)

-- at most 8 (a number that 8 bits cannot hold stands as 255)
unfoldable pub number : Description ℕ
number = field 8 (λ v. leb v 8) fault.TooManyValues (λ v. v) (λ n. lesser n 255) (λ n. true)

-- ---- has-time (1); if set, use-if-late (1) and time (float)

unfoldable pub timed : Description (Bool × Float)
timed = pair flag (float range.Time)

abbrev pub when_of : Option (Bool × Float) → When
when_of none = Untimed
when_of (some x) = Timed x.0 x.1

abbrev pub when_parts : When → Option (Bool × Float)
when_parts Untimed = none
when_parts (Timed late t) = some (late, t)

unfoldable pub when : Description When
when = alike when_of when_parts (if_set timed)

-- ---- has-label (1), label (16) if set

abbrev pub label_of : Option ℕ → Label
label_of none = Unlabelled
label_of (some n) = Labelled n

abbrev pub label_parts : Label → Option ℕ
label_parts Unlabelled = none
label_parts (Labelled n) = some n

unfoldable pub label : Description Label
label = alike label_of label_parts (if_set symbol)

-- ---- type (3)

pub data Kind : Type 0 where
  instr control end tempo : Kind

abbrev pub type_of : Kind → ℕ
type_of instr = 0
type_of control = 1
type_of end = 4
type_of tempo = 5

abbrev pub kinds : List Kind
kinds = instr ∷ (control ∷ (end ∷ (tempo ∷ [])))

unfoldable pub kind : Description Kind
kind = one_of 3 type_of kinds fault.NotCarried

-- ---- the fields of each type

-- label (16), variable (16), value (float)
unfoldable pub labelled : Description (ℕ × (ℕ × Float))
labelled = pair symbol (pair symbol (float range.Value))

abbrev pub Body : Kind → Type 0
Body instr = Label × (ℕ × Float)
Body control = ℕ × (ℕ × Float)
Body end = Unit
Body tempo = Float

-- instr: has-label (1), label (16) if set, instrument (16), duration (float), and then its values
-- control: has-label (1), which must be set, label (16), variable (16), value (float)
-- end: nothing; tempo: a float
unfoldable pub body : (k : Kind) → Description (Body k)
body instr = pair label (pair symbol (float range.Duration))
body control = set_then fault.NotCarried labelled
body end = nothing
body tempo = float range.Tempo

-- number of values (8), values (floats)
unfoldable pub counted : Description (ℕ × List Float)
counted = choose {B = λ (n : ℕ). List Float} number (λ n. times n (float range.Value))

abbrev pub Values : Kind → Type 0
Values instr = ℕ × List Float
Values control = Unit
Values end = Unit
Values tempo = Unit

unfoldable pub values : (k : Kind) → Description (Values k)
values instr = counted
values control = nothing
values end = nothing
values tempo = nothing

-- ---- the line

abbrev pub Parts : Type 0
Parts = When × (Bool × ((k : Kind) × (Body k × Values k)))

-- priority (1), type (3), the fields of the type
unfoldable pub after_time : Description (Bool × ((k : Kind) × (Body k × Values k)))
after_time = pair flag (choose {B = λ (k : Kind). Body k × Values k} kind (λ k. pair (body k) (values k)))

unfoldable pub parts : Description Parts
parts = pair when after_time

-- ---- the same as a `Line`

abbrev pub event_of : (k : Kind) → Body k → Event
event_of instr x = Instr x.0 x.1.0 x.1.1
event_of control x = Control x.0 x.1.0 x.1.1
event_of end x = End
event_of tempo x = Tempo x

abbrev pub event_parts : Event → (k : Kind) × Body k
event_parts (Instr l i d) = (instr, (l, (i, d)))
event_parts (Control l v x) = (control, (l, (v, x)))
event_parts End = (end, tt)
event_parts (Tempo t) = (tempo, t)

abbrev pub count_of : (k : Kind) → Values k → ℕ
count_of instr x = x.0
count_of control x = 0
count_of end x = 0
count_of tempo x = 0

abbrev pub list_of : (k : Kind) → Values k → List Float
list_of instr x = x.1
list_of control x = []
list_of end x = []
list_of tempo x = []

-- the first n of a line's values, where its kind has values
abbrev pub values_of : (k : Kind) → ℕ → List Float → Values k
values_of instr n xs = (n, take n xs)
values_of control n xs = tt
values_of end n xs = tt
values_of tempo n xs = tt

abbrev pub zero_float : Float
zero_float = of_bits binary32 0

-- too few values: the other places are zero
unfoldable pub padded : List Float → List Float
padded xs = xs ++ replicate (8 - length xs) zero_float

abbrev pub line_with : Parts → Line
line_with x =
    record {
      when = x.0;
      priority = x.1.0;
      event = event_of x.1.1.0 x.1.1.1.0;
      count = count_of x.1.1.0 x.1.1.1.1;
      values = padded (list_of x.1.1.0 x.1.1.1.1);
    }

abbrev pub kind_of : Event → Kind
kind_of e = (event_parts e).0

abbrev pub parts_of : Line → Parts
parts_of l = (l.when, (l.priority, (kind_of l.event, ((event_parts l.event).1, values_of (kind_of l.event) l.count l.values))))

-- +0
unfoldable pub is_zero : Float → Bool
is_zero x = fits binary32 x && eqb (to_bits binary32 x) 0

-- the number of values in use: none but in an instr line
abbrev pub used : Line → ℕ
used l = count_of (kind_of l.event) (values_of (kind_of l.event) l.count l.values)

-- eight places, +0 behind those in use
abbrev pub filled : Line → Bool
filled l = eqb (length l.values) 8 && (eqb l.count (used l) && all is_zero (drop (used l) l.values))

unfoldable pub line : Description Line
line = as-a line_with parts_of filled parts

-- the most fields that a line has, those of an instr line with time, label and 8 values: in an area of words each line has a slot of so many
abbrev pub slot_words : ℕ
slot_words = 18

-- every field in its range, and nothing behind them
abbrev pub valid : Line → Bool
valid l = (format line).valid l
