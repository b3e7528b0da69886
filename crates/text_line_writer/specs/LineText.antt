-- The text of a score line (M-100): single spaces, none before the colon and one behind it, and each number as it is written. A line has none exactly if
-- it has no time, has use-if-late set, or one of its numbers has none. Definitions only.
use Rattle.std.specs.Prelude.{ℕ, ◌≡◌, true, false, List, [], ◌∷◌, take, length, Float}
use Rattle.std.proofs.Math.Option.{Option, none, some, map}
use Rattle.text_numerals.specs.Numeral.{Numeral, Valid, NoLeadingZeros, whole_of, meaning}
use Rattle.text_numerals.specs.Shortest.{NoText, Shortest}
use Rattle.score_line.specs.declared.When.{When}
use Rattle.score_line.specs.declared.When.TheVariants.{Timed, Untimed}
use Rattle.score_line.specs.declared.Event.{Event}
use Rattle.score_line.specs.declared.Event.TheVariants.{Instr, Control, End, Tempo}
use Rattle.score_line.specs.declared.Line.{Line}
use Rattle.score_line.specs.LineFormat.{label_parts}
use Rattle.text_format.specs.Content.{Content}
use Rattle.text_format.specs.Content as content
use Rattle.text_format.specs.Form.{Behind, Label, Form, instr, control, tempo, end, TextLine, content_by}

-- ---- which numeral is written

-- of all that mean the same float it has the fewest decimals, and of these it is the smallest in size; no needless leading zeros
pub record Canonical (t : Numeral) : Type 0 where
  pub valid : Valid t
  pub shortest : Shortest (meaning t) (whole_of t) (length t.decimals)
  pub unpadded : NoLeadingZeros t.digits

-- ---- what a line says

-- a text line is timed, use-if-late clear
abbrev pub time_content : When → Option Float
time_content Untimed = none
time_content (Timed true t) = none
time_content (Timed false t) = some t

-- of the values those in use
abbrev pub event_content : Event → ℕ → List Float → content.Event
event_content (Instr label instrument duration) n xs = content.instr (label_parts label) instrument duration (take n xs)
event_content (Control label variable value) n xs = content.control (some label) variable value
event_content End n xs = content.end
event_content (Tempo x) n xs = content.tempo x

abbrev pub content_of : Line → Option Content
content_of l = map (λ t. record { priority = l.priority; time = t; event = event_content l.event l.count l.values }) (time_content l.when)

-- ---- which text is written for it

-- behind a single space
abbrev pub Single : {A : Type 0} → Behind A → Type 0
Single x = x.more ≡ 0

-- no space before the colon, one behind it
abbrev pub CanonicalLabel : Option Label → Type 0
CanonicalLabel none = Unit {0}
CanonicalLabel (some l) = (l.before ≡ 0) × (l.after ≡ 1)

abbrev pub CanonicalTarget : Option (Behind ℕ) → Type 0
CanonicalTarget none = Unit {0}
CanonicalTarget (some l) = Single l

abbrev pub CanonicalNumber : Behind Numeral → Type 0
CanonicalNumber x = Single x × Canonical x.element

unfoldable pub CanonicalValues : List (Behind Numeral) → Type 0
CanonicalValues [] = Unit {0}
CanonicalValues (x ∷ xs) = CanonicalNumber x × CanonicalValues xs

unfoldable pub CanonicalForm : Form → Type 0
unfolding CanonicalValues
CanonicalForm (instr l t n d vs) = CanonicalLabel l × (Canonical t × (Single n × (CanonicalNumber d × CanonicalValues vs)))
CanonicalForm (control t l more n x) = Canonical t × (CanonicalTarget l × ((more ≡ 0) × (Single n × CanonicalNumber x)))
CanonicalForm (tempo t more x) = Canonical t × ((more ≡ 0) × CanonicalNumber x)
CanonicalForm (end t more) = Canonical t × (more ≡ 0)

-- this is the text of the line: what it says is the line, and it is plainly written
pub record IsTextOf (l : Line) (w : TextLine) : Type 0 where
  pub is-content : content_of l ≡ some (content_by w)
  pub is_plain : CanonicalForm w.form

-- ---- which lines have none

-- the numbers that a line says
abbrev pub event_numbers : content.Event → List Float
event_numbers (content.instr l name d vs) = d ∷ vs
event_numbers (content.control l name x) = x ∷ []
event_numbers (content.tempo x) = x ∷ []
event_numbers content.end = []

abbrev pub numbers_of : Content → List Float
numbers_of s = s.time ∷ event_numbers s.event

-- one of them has no text
pub data SomeNoText : List Float → Type 0 where
  here : {x : Float} {xs : List Float} → NoText x → SomeNoText (x ∷ xs)
  later : {x : Float} {xs : List Float} → SomeNoText xs → SomeNoText (x ∷ xs)

pub data NoTextForm (l : Line) : Type 0 where
  no-time : l.when ≡ Untimed → NoTextForm l
  use-if-late : (t : Float) → l.when ≡ Timed true t → NoTextForm l
  no_number : (s : Content) → content_of l ≡ some s → SomeNoText (numbers_of s) → NoTextForm l
