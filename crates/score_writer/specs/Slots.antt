-- The lines of an area of words, a slot to a line. Definitions only.
use Rattle.std.specs.Prelude.{ℕ, zero, suc, ◌*◌, ◌/◌, Bool, true, ◌&&◌, cond, List, [], ◌∷◌, eqb, ltb, length, take, drop}
use Rattle.base_answer.specs.Numbers.{is_taken}
use Rattle.base_answer.specs.declared.Answer.TheVariants.{Taken, CutShort, LeftOver}
use Rattle.score_line.specs.Reading.{line_in_words, refused_line}
use Rattle.score_line.specs.declared.Line.{Line}
use Rattle.score_line.specs.LineFormat.{slot_words}
use Rattle.score_line.specs.declared.LineRead.{LineRead}
use Rattle.score_reader.specs.declared.ScoreRead.{ScoreRead}

abbrev pub all_zero : List ℕ → Bool
all_zero [] = true
all_zero (w ∷ ws) = eqb w 0 && all_zero ws

-- a slot: a line's numbers as the keypad reads them, then nothing but zeros
unfoldable pub slot_line : List ℕ → LineRead
slot_line slot = cond (is_taken (line_in_words slot 0).answer) (cond (all_zero (drop (line_in_words slot 0).next slot)) (line_in_words slot 0) (refused_line LeftOver)) (line_in_words slot 0)

-- the slot of number i; numbers are lacking where the area does not hold it whole
unfoldable pub slot_read : List ℕ → ℕ → LineRead
slot_read area i = cond (ltb i (length area / slot_words)) (slot_line (take slot_words (drop (slot_words * i) area))) (refused_line CutShort)

-- the first fault among n slots from number i on, with its line's number
unfoldable pub area_fault : List ℕ → ℕ → ℕ → ScoreRead
area_fault area zero i = record { answer = Taken; line = 0 }
area_fault area (suc n) i = cond (is_taken (slot_read area i).answer) (area_fault area n (suc i)) (record { answer = (slot_read area i).answer; line = i })

-- the lines of n slots from number i on
unfoldable pub area_lines : List ℕ → ℕ → ℕ → List Line
area_lines area zero i = []
area_lines area (suc n) i = (slot_read area i).line ∷ area_lines area n (suc i)
