-- Lines in an area of words, a slot to a line, and what decoding leaves in it. Definitions only.
use Rattle.std.specs.Prelude.{ℕ, ◌*◌, ◌≡◌, cond, List, [], ◌∷◌, ◌++◌, leb, length, drop}
use Rattle.base_answer.specs.Numbers.{is_taken}
use Rattle.base_answer.specs.declared.Answer.TheVariants.{Taken, NoRoom}
use Rattle.score_line.specs.declared.Line.{Line}
use Rattle.score_line.specs.declared.LineRead.{LineRead}
use Rattle.score_line.specs.LineFormat.{slot_words}
use Rattle.score_line_writer.specs.Writing.{line_slot}
use Rattle.score_reader.specs.Score.{Score}
use Rattle.score_decoder.specs.declared.Decoded.{Decoded}

-- the words of lines: for each its keypad numbers, then zeros
unfoldable pub area_words : List Line → List ℕ
area_words [] = []
area_words (l ∷ ls) = line_slot l ++ area_words ls

-- words laid over the start of an area; what lies past them stays
unfoldable pub laid : List ℕ → List ℕ → List ℕ
laid words area = words ++ drop (length words) area

-- what decoding a score that was read so answers, into an area of that length: the same reading, then 8, which is about no line
unfoldable pub decoded_of : Score → ℕ → Decoded
decoded_of s length-of =
    cond (is_taken s.answer)
    (cond (leb (slot_words * length s.lines) length-of) (record { answer = Taken; line = 0; count = length s.lines }) (record { answer = NoRoom; line = 0; count = 0 }))
    (record { answer = s.answer; line = s.line; count = 0 })

-- the area afterwards: as it was on refusal
unfoldable pub area_after : Score → List ℕ → List ℕ
area_after s area = cond (is_taken s.answer) (cond (leb (slot_words * length s.lines) (length area)) (laid (area_words s.lines) area) area) area

-- a decoding's answer and the area that it leaves
pub record DecodesTo (s : Score) (old new : List ℕ) (r : Decoded) : Type 0 where
  pub told : r ≡ decoded_of s (length old)
  pub area : new ≡ area_after s old

-- an access unit as a score of the line that it carries; its refusals are about no line
unfoldable pub carried : LineRead → Score
carried r = record { answer = r.answer; line = 0; lines = r.line ∷ [] }
