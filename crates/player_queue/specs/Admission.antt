-- The one admission of a line, whichever entrance it comes by (document 01: per line 4, 7, 8).
use Rattle.std.specs.Prelude.{Bool, true, false, cond, List, ℕ, ◌+◌, set, take, ltb, Option, Some, None}
use Rattle.base_answer.specs.Numbers.{is_taken}
use Rattle.base_answer.specs.declared.Answer.{Answer}
use Rattle.base_answer.specs.declared.Answer.TheVariants.{Taken, NoInstrument, Late, NoRoom}
use Rattle.score_line.specs.declared.Event.{Event}
use Rattle.score_line.specs.declared.Event.TheVariants.{Instr, Control, End, Tempo}
use Rattle.score_line.specs.declared.Line.{Line}
use Rattle.player_queue.specs.Waiting.{is_late}
use Rattle.player_queue.specs.declared.Queue.{Queue}
use Rattle.base_answer.specs.declared.Answered.{Answered}

-- no such instrument, or more values than it has fields
abbrev pub too_many : Option ℕ → ℕ → Bool
too_many (Some n) values = ltb n values
too_many None values = true

-- instr lines alone
abbrev pub unfit_event : Option ℕ → ℕ → Event → Bool
unfit_event f values (Instr label i d) = too_many f values
unfit_event f values (Control label x value) = false
unfit_event f values End = false
unfit_event f values (Tempo t) = false

-- most lines that wait
abbrev pub most_lines : ℕ
most_lines = 64

-- 4, then 7, then 8
unfoldable pub admission : Queue → Line → Option ℕ → Answer
admission q l f =
    cond (unfit_event f l.count l.event) NoInstrument
    (cond (is_late q.ran q.last l.when) Late
    (cond (ltb q.count most_lines) Taken
    NoRoom))

-- one line more behind the others
unfoldable pub pushed : Queue → Line → Queue
pushed q l = record { lines = set q.lines q.count l; count = q.count + 1; ran = q.ran; last = q.last }

-- a line that is refused changes nothing
unfoldable pub admitted : Queue → Line → Option ℕ → Answered Queue
admitted q l f = record { left = cond (is_taken (admission q l f)) (pushed q l) q; answer = admission q l f }

-- the lines that wait
abbrev pub waiting_in : Queue → List Line
waiting_in q = take q.count q.lines
