-- What writing a score or an access unit answers and leaves. Definitions only.
use Rattle.std.specs.Prelude.{ℕ, ◌≡◌, cond, List, ◌++◌, leb, length, drop}
use Rattle.base_answer.specs.Numbers.{is_taken}
use Rattle.base_answer.specs.declared.Answer.{Answer}
use Rattle.base_answer.specs.declared.Answer.TheVariants.{Taken, OutOfRange, NoRoom}
use Rattle.score_line.specs.declared.Line.{Line}
use Rattle.score_line.specs.declared.LineRead.{LineRead}
use Rattle.score_line_writer.specs.Writing.{line_fault}
use Rattle.score_writer.specs.Writing.{score_bytes, unit_bytes, most_lines}
use Rattle.score_writer.specs.Slots.{slot_read, area_fault, area_lines}
use Rattle.score_writer.specs.declared.WriteResult.{WriteResult}

abbrev pub refusal : Answer → ℕ → WriteResult
refusal a i = record { answer = a; line = i; bytes = 0 }

-- these bytes into a lent area of that length: 8 where it is too short
abbrev pub told : List ℕ → ℕ → WriteResult
told bytes room = cond (leb (length bytes) room) (record { answer = Taken; line = 0; bytes = length bytes }) (refusal NoRoom 0)

-- the lent bytes afterwards: what lies past the bytes written stays, and all of it where they have no room
abbrev pub left : List ℕ → List ℕ → List ℕ
left bytes out = cond (leb (length bytes) (length out)) (bytes ++ drop (length bytes) out) out

-- ---- a score of the first n slots: the first faulty line, then 3 for too many lines, then 8

unfoldable pub score_written : List ℕ → ℕ → ℕ → WriteResult
score_written area n room =
    cond (is_taken (area_fault area n 0).answer)
    (cond (leb n most_lines) (told (score_bytes (area_lines area n 0)) room) (refusal OutOfRange 0))
    (refusal (area_fault area n 0).answer (area_fault area n 0).line)

unfoldable pub score_left : List ℕ → ℕ → List ℕ → List ℕ
score_left area n out = cond (is_taken (area_fault area n 0).answer) (cond (leb n most_lines) (left (score_bytes (area_lines area n 0)) out) out) out

-- ---- an access unit of a line: the fault that reading would meet, then 8

unfoldable pub unit_written : Line → ℕ → WriteResult
unit_written l room = cond (is_taken (line_fault l)) (told (unit_bytes l) room) (refusal (line_fault l) 0)

unfoldable pub unit_left : Line → List ℕ → List ℕ
unit_left l out = cond (is_taken (line_fault l)) (left (unit_bytes l) out) out

-- the same of an area's first slot
unfoldable pub slot_written : LineRead → ℕ → WriteResult
slot_written r room = cond (is_taken r.answer) (unit_written r.line room) (refusal r.answer 0)

unfoldable pub slot_left : LineRead → List ℕ → List ℕ
slot_left r out = cond (is_taken r.answer) (unit_left r.line out) out

-- ---- the promises of the calls

pub record ScoreDone (area : List ℕ) (n : ℕ) (old new : List ℕ) (r : WriteResult) : Type 0 where
  pub answers : r ≡ score_written area n (length old)
  pub leaves : new ≡ score_left area n old

pub record UnitDone (l : Line) (old new : List ℕ) (r : WriteResult) : Type 0 where
  pub answers : r ≡ unit_written l (length old)
  pub leaves : new ≡ unit_left l old

pub record SlotDone (area old new : List ℕ) (r : WriteResult) : Type 0 where
  pub answers : r ≡ slot_written (slot_read area 0) (length old)
  pub leaves : new ≡ slot_left (slot_read area 0) old
