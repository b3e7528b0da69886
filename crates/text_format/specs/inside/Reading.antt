-- A text read from its first byte on: its lines, or the first that is none (18); then the stick's rules for each line. Definitions only.
use Rattle.std.specs.Prelude.{ℕ, zero, suc, Bool, true, false, cond, List, [], ◌∷◌, leb, eqb, length, Float}
use Rattle.std.proofs.Math.Option.{Option, none, some}
use Rattle.base_answer.specs.declared.Answer.TheVariants.{BadText}
use Rattle.text_numerals.specs.Numeral.{name_letter}
use Rattle.text_numerals.specs.inside.Reading.{Read, got, refused, and_then, starts_with, rest, number_from, name_from}
use Rattle.score_reader.specs.Score.{Score, refused_score}
use Rattle.text_format.specs.Content.{Content, most_lines, judged_from, judgement}
use Rattle.text_format.specs.Content as content
use Rattle.text_format.specs.Form.{newline, space, star, colon, control_word, tempo_word, end_word}

-- ---- spaces, the colon, words, the end of a line

unfoldable pub past_spaces : List ℕ → List ℕ
past_spaces [] = []
past_spaces (b ∷ bs) = cond (eqb b space) (past_spaces bs) (b ∷ bs)

-- one space or more
unfoldable pub gap_from : List ℕ → Read (Unit {0})
unfolding starts_with past_spaces
gap_from bs = cond (starts_with space bs) (got tt (past_spaces bs)) refused

-- a colon, spaces round it optional
unfoldable pub colon_from : List ℕ → Read (Unit {0})
unfolding starts_with rest past_spaces
colon_from bs = cond (starts_with colon (past_spaces bs)) (got tt (past_spaces (rest (past_spaces bs)))) refused

unfoldable pub word_from : List ℕ → List ℕ → Read (Unit {0})
word_from [] bs = got tt bs
word_from (c ∷ cs) [] = refused
word_from (c ∷ cs) (b ∷ bs) = cond (eqb b c) (word_from cs bs) refused

-- the newline
unfoldable pub ending : {A : Type 0} → A → List ℕ → Read A
unfolding starts_with rest
ending a bs = cond (starts_with newline bs) (got a (rest bs)) refused

-- a name, or a number, behind a gap
unfoldable pub next_name : List ℕ → Read ℕ
unfolding gap_from name_from
next_name bs = and_then (gap_from bs) (λ x r. name_from r)

unfoldable pub next_number : List ℕ → Read Float
unfolding gap_from number_from
next_number bs = and_then (gap_from bs) (λ x r. number_from r)

-- ---- the events, each to the end of its line

-- numbers to the end of the line; there are fewer than bytes
unfoldable pub values_from : ℕ → List ℕ → Read (List Float)
unfolding starts_with rest next_number
values_from zero bs = refused
values_from (suc n) bs =
    cond (starts_with newline bs) (got [] (rest bs))
    (and_then (next_number bs) (λ x r. and_then (values_from n r) (λ xs q. got (x ∷ xs) q)))

-- behind the instrument's name: duration and values
unfoldable pub instr_from : Option ℕ → ℕ → List ℕ → Read content.Event
unfolding next_number values_from
instr_from label name bs =
    and_then (next_number bs) (λ d r. and_then (values_from (length r) r) (λ vs q. got (content.instr label name d vs) q))

-- from `control` on
unfoldable pub control_from : Option ℕ → List ℕ → Read content.Event
unfolding word_from next_name next_number ending
control_from label bs =
    and_then (word_from control_word bs) (λ x r. and_then (next_name r) (λ name q. and_then (next_number q) (λ v p. ending (content.control label name v) p)))

-- from `tempo` on
unfoldable pub tempo_from : List ℕ → Read content.Event
unfolding word_from next_number ending
tempo_from bs = and_then (word_from tempo_word bs) (λ x r. and_then (next_number r) (λ t q. ending (content.tempo t) q))

-- from `end` on
unfoldable pub end_from : List ℕ → Read content.Event
unfolding word_from ending
end_from bs = and_then (word_from end_word bs) (λ x r. ending content.end r)

-- behind a name that may be an instrument's or a control line's label
unfoldable pub named_from : ℕ → List ℕ → Read content.Event
unfolding gap_from starts_with control_from instr_from
named_from name bs = and_then (gap_from bs) (λ x r. cond (starts_with 99 r) (control_from (some name) r) (instr_from none name bs))

-- behind the time and a gap: the first letter tells the kind
unfoldable pub event_from : List ℕ → Read content.Event
unfolding starts_with name_from named_from control_from tempo_from end_from
event_from bs =
    cond (starts_with name_letter bs) (and_then (name_from bs) (λ name r. named_from name r))
    (cond (starts_with 99 bs) (control_from none bs) (cond (starts_with 116 bs) (tempo_from bs) (end_from bs)))

-- ---- a line

abbrev pub content_at : Bool → Float → content.Event → Content
content_at priority t e = record { priority = priority; time = t; event = e }

-- a line that begins with a label
unfoldable pub labelled_from : Bool → List ℕ → Read Content
unfolding name_from colon_from number_from next_name instr_from
labelled_from priority bs =
    and_then (name_from bs) (λ label r. and_then (colon_from r) (λ x q. and_then (number_from q) (λ t p.
    and_then (next_name p) (λ name o. and_then (instr_from (some label) name o) (λ e n. got (content_at priority t e) n)))))

-- a line that begins with its time
unfoldable pub timed_from : Bool → List ℕ → Read Content
unfolding number_from gap_from event_from
timed_from priority bs =
    and_then (number_from bs) (λ t r. and_then (gap_from r) (λ x q. and_then (event_from q) (λ e p. got (content_at priority t e) p)))

unfoldable pub body_from : Bool → List ℕ → Read Content
unfolding starts_with labelled_from timed_from
body_from priority bs = cond (starts_with name_letter bs) (labelled_from priority bs) (timed_from priority bs)

unfoldable pub line_from : List ℕ → Read Content
unfolding starts_with rest body_from
line_from bs = cond (starts_with star bs) (body_from true (rest bs)) (body_from false bs)

-- ---- the whole text

-- what the lines say, or the number of the first line that is none, or is one too many
pub data Text : Type 0 where
  lines : List Content → Text
  bad : ℕ → Text

abbrev pub before : Content → Text → Text
before s (lines ss) = lines (s ∷ ss)
before s (bad i) = bad i

abbrev pub then_lines : Read Content → ℕ → (List ℕ → Text) → Text
then_lines (got s r) i others = before s (others r)
then_lines refused i others = bad i

-- no bytes are no lines
abbrev pub unless_none : List ℕ → Text → Text
unless_none [] t = lines []
unless_none (b ∷ bs) t = t

-- the lines from number i on; there are no more than bytes
unfoldable pub lines_from : ℕ → ℕ → List ℕ → Text
unfolding line_from
lines_from zero i bs = unless_none bs (bad i)
lines_from (suc n) i bs = unless_none bs (cond (leb most_lines i) (bad i) (then_lines (line_from bs) i (λ r. lines_from n (suc i) r)))

abbrev pub judged : Text → Score
judged (lines ss) = judgement (judged_from 0 ss)
judged (bad i) = refused_score BadText i

unfoldable pub text_of : List ℕ → Score
unfolding lines_from judged_from
text_of bytes = judged (lines_from (length bytes) 0 bytes)
