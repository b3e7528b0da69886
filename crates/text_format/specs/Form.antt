-- A score as text (M-100): 001's form of instr, control, tempo and end lines. One or more spaces part elements, a colon with optional spaces
-- round it follows an instr label, "*" first of all is priority, a newline ends each line. Definitions only.
use Rattle.std.specs.Prelude.{ℕ, suc, ◌≤◌, Bool, true, false, List, [], ◌∷◌, ◌++◌, map, replicate}
use Rattle.std.proofs.Math.Option.{Option, none, some}
use Rattle.text_numerals.specs.Numeral.{Numeral, Valid, encoded, meaning, most_symbol, name_bytes}
use Rattle.text_format.specs.Content.{Content}
use Rattle.text_format.specs.Content as content

-- ---- bytes

abbrev pub newline : ℕ
newline = 10

abbrev pub space : ℕ
space = 32

abbrev pub star : ℕ
star = 42

abbrev pub colon : ℕ
colon = 58

-- c o n t r o l
abbrev pub control_word : List ℕ
control_word = 99 ∷ (111 ∷ (110 ∷ (116 ∷ (114 ∷ (111 ∷ (108 ∷ []))))))

-- t e m p o
abbrev pub tempo_word : List ℕ
tempo_word = 116 ∷ (101 ∷ (109 ∷ (112 ∷ (111 ∷ []))))

-- e n d
abbrev pub end_word : List ℕ
end_word = 101 ∷ (110 ∷ (100 ∷ []))

-- ---- a line as it is written

-- an element behind one space and so many more
pub record Behind (A : Type 0) : Type 0 where
  pub more : ℕ
  pub element : A

-- a label and its colon, with the spaces before and behind the colon
pub record Label : Type 0 where
  pub name : ℕ
  pub before : ℕ
  pub after : ℕ

pub data Form : Type 0 where
  -- [label :] time name duration values
  instr : Option Label → Numeral → Behind ℕ → Behind Numeral → List (Behind Numeral) → Form
  -- time [label] control name number; the spaces before `control` but one
  control : Numeral → Option (Behind ℕ) → ℕ → Behind ℕ → Behind Numeral → Form
  -- time tempo number
  tempo : Numeral → ℕ → Behind Numeral → Form
  -- time end
  end : Numeral → ℕ → Form

pub record TextLine : Type 0 where
  pub priority : Bool
  pub form : Form

-- ---- its bytes

unfoldable pub spaces : ℕ → List ℕ
spaces n = replicate n space

unfoldable pub behind_bytes : ℕ → List ℕ → List ℕ
unfolding spaces
behind_bytes more bytes = spaces (suc more) ++ bytes

abbrev pub behind_name : Behind ℕ → List ℕ
behind_name x = behind_bytes x.more (name_bytes x.element)

abbrev pub behind_number : Behind Numeral → List ℕ
behind_number x = behind_bytes x.more (encoded x.element)

unfoldable pub label_bytes : Option Label → List ℕ
unfolding spaces
label_bytes none = []
label_bytes (some l) = name_bytes l.name ++ (spaces l.before ++ (colon ∷ spaces l.after))

unfoldable pub target_bytes : Option (Behind ℕ) → List ℕ
unfolding behind_bytes
target_bytes none = []
target_bytes (some l) = behind_name l

unfoldable pub value_bytes : List (Behind Numeral) → List ℕ
unfolding behind_bytes
value_bytes [] = []
value_bytes (x ∷ xs) = behind_number x ++ value_bytes xs

unfoldable pub form_bytes : Form → List ℕ
unfolding behind_bytes label_bytes target_bytes value_bytes
form_bytes (instr l t n d vs) = label_bytes l ++ (encoded t ++ (behind_name n ++ (behind_number d ++ value_bytes vs)))
form_bytes (control t l more n x) = encoded t ++ (target_bytes l ++ (behind_bytes more control_word ++ (behind_name n ++ behind_number x)))
form_bytes (tempo t more x) = encoded t ++ (behind_bytes more tempo_word ++ behind_number x)
form_bytes (end t more) = encoded t ++ behind_bytes more end_word

unfoldable pub star_bytes : Bool → List ℕ
star_bytes true = star ∷ []
star_bytes false = []

unfoldable pub line_bytes : TextLine → List ℕ
unfolding star_bytes form_bytes
line_bytes w = star_bytes w.priority ++ (form_bytes w.form ++ (newline ∷ []))

unfoldable pub text_bytes : List TextLine → List ℕ
unfolding line_bytes
text_bytes [] = []
text_bytes (w ∷ ws) = line_bytes w ++ text_bytes ws

-- ---- valid names and numbers

abbrev pub ValidName : ℕ → Type 0
ValidName symbol = symbol ≤ most_symbol

abbrev pub ValidLabel : Option Label → Type 0
ValidLabel none = Unit {0}
ValidLabel (some l) = ValidName l.name

abbrev pub ValidTarget : Option (Behind ℕ) → Type 0
ValidTarget none = Unit {0}
ValidTarget (some l) = ValidName l.element

unfoldable pub ValidValues : List (Behind Numeral) → Type 0
ValidValues [] = Unit {0}
ValidValues (x ∷ xs) = Valid x.element × ValidValues xs

unfoldable pub ValidForm : Form → Type 0
unfolding ValidValues
ValidForm (instr l t n d vs) = ValidLabel l × (Valid t × (ValidName n.element × (Valid d.element × ValidValues vs)))
ValidForm (control t l more n x) = Valid t × (ValidTarget l × (ValidName n.element × Valid x.element))
ValidForm (tempo t more x) = Valid t × Valid x.element
ValidForm (end t more) = Valid t

unfoldable pub ValidLines : List TextLine → Type 0
unfolding ValidForm
ValidLines [] = Unit {0}
ValidLines (w ∷ ws) = ValidForm w.form × ValidLines ws

-- ---- what it says

abbrev pub label_content : Option Label → Option ℕ
label_content none = none
label_content (some l) = some l.name

abbrev pub target_content : Option (Behind ℕ) → Option ℕ
target_content none = none
target_content (some l) = some l.element

abbrev pub time_content : Form → Numeral
time_content (instr l t n d vs) = t
time_content (control t l more n x) = t
time_content (tempo t more x) = t
time_content (end t more) = t

abbrev pub event_content : Form → content.Event
event_content (instr l t n d vs) = content.instr (label_content l) n.element (meaning d.element) (map (λ (x : Behind Numeral). meaning x.element) vs)
event_content (control t l more n x) = content.control (target_content l) n.element (meaning x.element)
event_content (tempo t more x) = content.tempo (meaning x.element)
event_content (end t more) = content.end

unfoldable pub content_by : TextLine → Content
content_by w = record { priority = w.priority; time = meaning (time_content w.form); event = event_content w.form }
