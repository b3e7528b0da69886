-- What a line of text says, as the fields of document 01's score line, so that the stick's rules read it. Definitions only.
use Rattle.std.specs.Prelude.{ℕ, suc, Bool, cond, List, [], ◌∷◌, ◌++◌, map, length, Float}
use Rattle.std.proofs.Math.Option.{Option, none, some}
use Rattle.std.specs.Float.{binary32}
use Rattle.std.specs.Float.Ieee.{to_bits}
use Rattle.base_formats.specs.Format.{keypad_source, Read}
use Rattle.score_line.specs.Reading.{line_from, answer_of}
use Rattle.score_line.specs.LineFormat as format
use Rattle.score_line.specs.declared.Line.{Line}
use Rattle.score_reader.specs.Score.{Lines, all, faulty, line_then, Score, taken, refused_score}

pub data Event : Type 0 where
  -- a label or none, the instrument, the duration and the values
  instr : Option ℕ → ℕ → Float → List Float → Event
  -- a label or none, the variable and its value
  control : Option ℕ → ℕ → Float → Event
  tempo : Float → Event
  end : Event

pub record Content : Type 0 where
  pub priority : Bool
  pub time : Float
  pub event : Event

-- ---- the same as keypad numbers

abbrev pub bits : Float → ℕ
bits x = to_bits binary32 x

abbrev pub flag : Bool → ℕ
flag b = cond b 1 0

-- has-label, and the label if it is set
abbrev pub label_words : Option ℕ → List ℕ
label_words none = 0 ∷ []
label_words (some l) = 1 ∷ (l ∷ [])

-- type, and the fields of the type
abbrev pub event_words : Event → List ℕ
event_words (instr l name d vs) = format.type_of format.instr ∷ (label_words l ++ (name ∷ (bits d ∷ (length vs ∷ map bits vs))))
event_words (control l name x) = format.type_of format.control ∷ (label_words l ++ (name ∷ (bits x ∷ [])))
event_words (tempo t) = format.type_of format.tempo ∷ (bits t ∷ [])
event_words end = format.type_of format.end ∷ []

-- has-time set, use-if-late clear, time, priority, and the event
unfoldable pub words_of : Content → List ℕ
words_of s = 1 ∷ (0 ∷ (bits s.time ∷ (flag s.priority ∷ event_words s.event)))

-- the line, or the first fault in reading order
unfoldable pub line_content : Content → Read Line
line_content s = line_from (keypad_source (words_of s)) 0

-- the most lines of a score
abbrev pub most_lines : ℕ
most_lines = 1048575

-- then 1, 2, 3, 5 by the stick's rules: the first fault, from the line of number i on
unfoldable pub judged_from : ℕ → List Content → Lines
unfolding line_content
judged_from i [] = all [] 0
judged_from i (s ∷ ss) = line_then (line_content s) i (λ p. judged_from (suc i) ss)

abbrev pub judgement : Lines → Score
judgement (all ls p) = taken ls
judgement (faulty f i) = refused_score (answer_of f) i
