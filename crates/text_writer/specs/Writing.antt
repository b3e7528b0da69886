-- What writing a score as text answers and leaves. Definitions only.
use Rattle.std.specs.Prelude.{ℕ, suc, ◌≡◌, cond, List, [], ◌∷◌, leb, length}
use Rattle.std.proofs.Math.Option.{Option, none, some}
use Rattle.base_answer.specs.Numbers.{is_taken}
use Rattle.base_answer.specs.declared.Answer.TheVariants.{OutOfRange, NoText}
use Rattle.score_line.specs.declared.Line.{Line}
use Rattle.text_format.specs.Form as form
use Rattle.text_format.specs.Form.{text_bytes}
use Rattle.score_writer.specs.Slots.{area_fault, area_lines}
use Rattle.score_writer.specs.Writing.{most_lines}
use Rattle.score_writer.specs.Written.{refusal, told, left}
use Rattle.score_writer.specs.declared.WriteResult.{WriteResult}
use Rattle.text_line_writer.specs.inside.LineText.{line_text}

-- the lines of a text, or the number of the first line that has none
pub data Text : Type 0 where
  all : List form.TextLine → Text
  lacking : ℕ → Text

abbrev pub before : Option form.TextLine → ℕ → Text → Text
before none i t = lacking i
before (some w) i (all ws) = all (w ∷ ws)
before (some w) i (lacking j) = lacking j

-- the text of lines, the first of them number i
unfoldable pub text_from : ℕ → List Line → Text
unfolding line_text
text_from i [] = all []
text_from i (l ∷ ls) = before (line_text l) i (text_from (suc i) ls)

-- 19 with the first line that has no text, then 8
abbrev pub told_text : Text → ℕ → WriteResult
told_text (all ws) room = told (text_bytes ws) room
told_text (lacking i) room = refusal NoText i

abbrev pub left_text : Text → List ℕ → List ℕ
left_text (all ws) out = left (text_bytes ws) out
left_text (lacking i) out = out

-- the first n slots: the first faulty line, then 3 for too many lines, then 19, then 8
unfoldable pub text_written : List ℕ → ℕ → ℕ → WriteResult
unfolding text_from
text_written area n room =
    cond (is_taken (area_fault area n 0).answer)
    (cond (leb n most_lines) (told_text (text_from 0 (area_lines area n 0)) room) (refusal OutOfRange 0))
    (refusal (area_fault area n 0).answer (area_fault area n 0).line)

-- the lent bytes afterwards
unfoldable pub text_left : List ℕ → ℕ → List ℕ → List ℕ
unfolding text_from
text_left area n out = cond (is_taken (area_fault area n 0).answer) (cond (leb n most_lines) (left_text (text_from 0 (area_lines area n 0)) out) out) out

pub record TextDone (area : List ℕ) (n : ℕ) (old new : List ℕ) (r : WriteResult) : Type 0 where
  pub answers : r ≡ text_written area n (length old)
  pub leaves : new ≡ text_left area n old
