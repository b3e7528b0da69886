-- The text of a line as a function, which the writer's contract cites; `EveryLineTold` says that it is the one of `LineText`. Definitions only.
use Rattle.std.specs.Prelude.{ℕ, List, [], ◌∷◌, map, Float}
use Rattle.std.proofs.Math.Option
use Rattle.std.proofs.Math.Option.{Option, none, some}
use Rattle.text_numerals.specs.Numeral.{Numeral}
use Rattle.score_line.specs.declared.Line.{Line}
use Rattle.text_format.specs.Content.{Content}
use Rattle.text_format.specs.Content as content
use Rattle.text_format.specs.Form.{Behind, Label, Form, instr, control, tempo, end, TextLine}
use Rattle.text_line_writer.specs.inside.NumberText.{number_text}
use Rattle.text_line_writer.specs.LineText.{content_of}

-- and then: what follows, where there is something
abbrev pub if_there : {A B : Type 0} → Option A → (A → Option B) → Option B
if_there none k = none
if_there (some a) k = k a

abbrev pub single : {A : Type 0} → A → Behind A
single a = record { more = 0; element = a }

abbrev pub label_form : ℕ → Label
label_form name = record { name = name; before = 0; after = 1 }

unfoldable pub values_text : List Float → Option (List Numeral)
values_text [] = some []
values_text (x ∷ xs) = if_there (number_text x) (λ t. Option.map (λ ts. t ∷ ts) (values_text xs))

unfoldable pub event_text : content.Event → Numeral → Option Form
unfolding values_text
event_text (content.instr l name d vs) t = if_there (number_text d) (λ x. Option.map (λ xs. instr (Option.map label_form l) t (single name) (single x) (map single xs)) (values_text vs))
event_text (content.control l name x) t = Option.map (λ y. control t (Option.map single l) 0 (single name) (single y)) (number_text x)
event_text (content.tempo x) t = Option.map (λ y. tempo t 0 (single y)) (number_text x)
event_text content.end t = some (end t 0)

unfoldable pub content_text : Content → Option TextLine
unfolding event_text
content_text s = Option.map (λ f. record { priority = s.priority; form = f }) (if_there (number_text s.time) (event_text s.event))

unfoldable pub line_text : Line → Option TextLine
unfolding content_text
line_text l = if_there (content_of l) content_text
