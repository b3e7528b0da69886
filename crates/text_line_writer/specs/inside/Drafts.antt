-- The text of a line as the code puts it together, piece by piece. Definitions only.
use Rattle.std.specs.Prelude.{ℕ, ◌≡◌, List, [], ◌∷◌, ◌++◌, Float, Option as Optional, Some, None}
use Rattle.std.proofs.Math.Option.{Option, none, some, map}
use Rattle.text_numerals.specs.Numeral.{encoded}
use Rattle.text_number_writer.specs.Push.{empty_text, push_all}
use Rattle.score_line.specs.LineFormat.{label_parts}
use Rattle.score_line.specs.declared.Label.{Label}
use Rattle.text_format.specs.Content as content
use Rattle.text_format.specs.Form.{space, label_bytes, form_bytes}
use Rattle.text_line_writer.specs.inside.NumberText.{number_text}
use Rattle.text_line_writer.specs.inside.LineText.{if_there, label_form, event_text}
use Rattle.text_number_writer.specs.declared.LineText.{LineText}

-- bytes behind bytes, where both are there
abbrev pub beside : Option (List ℕ) → Option (List ℕ) → Option (List ℕ)
beside none b = none
beside (some x) none = none
beside (some x) (some y) = some (x ++ y)

-- a line of text and these bytes behind it, where they are there
abbrev pub joined : LineText → Option (List ℕ) → Optional LineText
joined t none = None
joined t (some bytes) = Some (push_all t bytes)

-- r is t and these bytes behind it
pub record Joined (t : LineText) (piece : Option (List ℕ)) (r : Optional LineText) : Type 0 where
  pub is : r ≡ joined t piece

-- a text of these bytes, or none where a number is missing
abbrev pub Holds : Optional LineText → Option (List ℕ) → Type 0
Holds r none = r ≡ None
Holds r (some bytes) = r ≡ Some (push_all empty_text bytes)

unfoldable pub drafted : Option (List ℕ) → Optional LineText
drafted piece = joined empty_text piece

pub record Drafted (r : Optional LineText) (piece : Option (List ℕ)) : Type 0 where
  pub told : r ≡ drafted piece
  pub holds : Holds r piece

-- ---- the pieces

unfoldable pub number_bytes : Float → Option (List ℕ)
unfolding encoded
number_bytes x = map encoded (number_text x)

unfoldable pub next_bytes : Float → Option (List ℕ)
unfolding number_bytes
next_bytes x = beside (some (space ∷ [])) (number_bytes x)

unfoldable pub values_bytes : List Float → Option (List ℕ)
unfolding next_bytes
values_bytes [] = some []
values_bytes (x ∷ xs) = beside (next_bytes x) (values_bytes xs)

unfoldable pub label_bytes_of : Label → List ℕ
unfolding label_bytes
label_bytes_of l = label_bytes (map label_form (label_parts l))

-- the text of a time and an event
unfoldable pub form_text : Float → content.Event → Option (List ℕ)
unfolding form_bytes event_text
form_text time e = map form_bytes (if_there (number_text time) (event_text e))
