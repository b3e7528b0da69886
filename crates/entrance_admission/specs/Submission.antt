-- What the entrances bring into the waiting lines (document 01: per line 6, 4, 7, 8; whole or not at all).
use Rattle.std.specs.Prelude.{Bool, not, ◌&&◌, cond, List, [], ◌∷◌, ℕ, ◌+◌}
use Rattle.base_answer.specs.Numbers.{is_taken}
use Rattle.base_answer.specs.declared.Answer.TheVariants.{Taken, NoTime, Ended}
use Rattle.score_line.specs.declared.Line.{Line}
use Rattle.score_reader.specs.Score.{Score}
use Rattle.player_model.specs.Calls.{has_time}
use Rattle.player_queue.specs.Admission.{admitted}
use Rattle.player_queue.specs.declared.Queue.{Queue}
use Rattle.base_answer.specs.declared.Answered.{Answered}
use Rattle.code_program.specs.InstrumentTable.{field_count_in}
use Rattle.code_program.specs.declared.Instrument.{Instrument}
use Rattle.base_answer.specs.declared.AnsweredLine.{AnsweredLine}

-- 6 where it needs a time and has none, then the one admission, with the fields of the line's instrument
unfoldable pub line_admitted : Bool → List Instrument → Queue → Line → Answered Queue
line_admitted timed table q l =
    cond (timed && not (has_time l.when)) (record { left = q; answer = NoTime }) (admitted q l (field_count_in table l.event))

-- Lines from number i on into a copy q of the waiting lines `old`, so that earlier lines of the same call count as waiting. All of them
-- go in, or none and the first refusal, with its line's number.
unfoldable pub admitted_all : Bool → List Instrument → Queue → Queue → ℕ → List Line → AnsweredLine Queue
admitted_all timed table old q i [] = record { left = q; answer = Taken; line = 0 }
admitted_all timed table old q i (l ∷ ls) =
    cond (is_taken (line_admitted timed table q l).answer) (admitted_all timed table old (line_admitted timed table q l).left (i + 1) ls)
    (record { left = old; answer = (line_admitted timed table q l).answer; line = i })

-- what was read: 9 after the end, then the first fault of its reading, then its lines
unfoldable pub submitted_in : Bool → Bool → List Instrument → Queue → Score → AnsweredLine Queue
submitted_in ended timed table q s =
    cond ended (record { left = q; answer = Ended; line = 0 })
    (cond (is_taken s.answer) (admitted_all timed table q q 0 s.lines) (record { left = q; answer = s.answer; line = s.line }))
