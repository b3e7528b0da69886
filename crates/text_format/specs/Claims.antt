-- What is promised of the reading of a text, by its encoding. Statements only.
use Rattle.std.specs.Prelude.{ℕ, ◌≤◌, ◌≡◌, List, ◌∷◌, ◌++◌, map, length}
use Rattle.score_reader.specs.Score.{refused_score}
use Rattle.base_answer.specs.declared.Answer.{Answer}
use Rattle.base_answer.specs.declared.Answer.TheVariants.{Taken, NotCarried, OutOfRange, TooManyValues, BadText}
use Rattle.text_format.specs.Form.{TextLine, line_bytes, text_bytes, ValidForm, ValidLines, content_by}
use Rattle.text_format.specs.Content.{most_lines, judgement, judged_from}
use Rattle.text_format.specs.inside.Reading.{text_of}

-- these bytes are the lines of a text, at most 1,048,575
pub record Encodes (bytes : List ℕ) (ws : List TextLine) : Type 0 where
  pub encoded : text_bytes ws ≡ bytes
  pub valid : ValidLines ws
  pub few : length ws ≤ most_lines

-- no line stands at the start of these bytes
abbrev pub NoLine : List ℕ → Type 0
NoLine bytes = (w : TextLine) (rest : List ℕ) → ValidForm w.form → line_bytes w ++ rest ≡ bytes → ⊥

-- behind some lines there are bytes, and no line stands there, or one that is too many
pub record Breaks (bytes : List ℕ) (number : ℕ) : Type 0 where
  pub before : List TextLine
  pub first : ℕ
  pub others : List ℕ
  pub encoded : text_bytes before ++ (first ∷ others) ≡ bytes
  pub valid : ValidLines before
  pub counted : length before ≡ number
  pub few : number ≤ most_lines
  pub none : (number ≡ most_lines → ⊥) → NoLine (first ∷ others)

-- Every text is the encoding of lines, which are then judged as the stick's are, or breaks at one line; not both.
abbrev pub Judged : List ℕ → List TextLine → Type 0
Judged bytes ws = text_of bytes ≡ judgement (judged_from 0 (map content_by ws))

abbrev pub TextRead : Type 0
TextRead = (bytes : List ℕ) (ws : List TextLine) → Encodes bytes ws → Judged bytes ws

abbrev pub TextBroken : Type 0
TextBroken = (bytes : List ℕ) (number : ℕ) → Breaks bytes number → text_of bytes ≡ refused_score BadText number

pub data Either (bytes : List ℕ) : Type 0 where
  encodes : (ws : List TextLine) → Encodes bytes ws → Either bytes
  breaks : (number : ℕ) → Breaks bytes number → Either bytes

abbrev pub EveryText : Type 0
EveryText = (bytes : List ℕ) → Either bytes

abbrev pub NotBoth : Type 0
NotBoth = (bytes : List ℕ) (ws : List TextLine) (number : ℕ) → Encodes bytes ws → Breaks bytes number → ⊥

abbrev pub OneBreak : Type 0
OneBreak = (bytes : List ℕ) (n m : ℕ) → Breaks bytes n → Breaks bytes m → n ≡ m

-- at most one list of lines encodes given bytes
abbrev pub OneDecoding : Type 0
OneDecoding = (bytes : List ℕ) (ws vs : List TextLine) → Encodes bytes ws → Encodes bytes vs → ws ≡ vs

-- the answers that a text can get: 0, 2, 3, 5 and 18; what a line says is never cut short, and nothing is left over
pub data TextAnswer : Answer → Type 0 where
  is-taken : TextAnswer Taken
  not_carried : TextAnswer NotCarried
  out_of_range : TextAnswer OutOfRange
  too-many-values : TextAnswer TooManyValues
  bad-text : TextAnswer BadText

abbrev pub TextAnswers : Type 0
TextAnswers = (bytes : List ℕ) → TextAnswer (text_of bytes).answer
