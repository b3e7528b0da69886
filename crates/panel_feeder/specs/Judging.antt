-- Whether a score's lines can be fed to a panel, as it is before the first of them.
use Rattle.std.specs.Prelude.{◌≡◌, cond, List, ℕ, zero, suc, leb, Float, length}
use Rattle.base_answer.specs.Numbers.{is_taken}
use Rattle.base_answer.specs.declared.Answer.{Answer}
use Rattle.base_answer.specs.declared.Answer.TheVariants.{Taken, NoTime, OutOfRange, NoRoom}
use Rattle.score_line_writer.specs.Writing.{line_words}
use Rattle.score_reader.specs.declared.ScoreRead.{ScoreRead}
use Rattle.score_writer.specs.Writing.{most_lines}
use Rattle.score_writer.specs.Slots.{area_fault}
use Rattle.player_model.specs.Lists.{over}
use Rattle.player_model.specs.Calls.{keypad, has_time}
use Rattle.panel.specs.declared.Panel.{Panel}
use Rattle.panel.specs.declared.Core.{Core}
use Rattle.panel.specs.State.{panel_of}
use Rattle.panel.specs.Calls.{submit_of}
use Rattle.panel_feeder.specs.Order.{line_in, order_of}

-- the answer to one line: 6 where it has no time, else the panel's, were it to come alone
unfoldable pub answer_to : List ℕ → ℕ → Panel → Answer
answer_to area i p = cond (has_time (line_in area i).when) (submit_of p.core keypad (line_words (line_in area i))).answer NoTime

-- the first of n lines from number i on that is not taken, its answer with its number
unfoldable pub first_refused : List ℕ → ℕ → ℕ → Panel → ScoreRead
first_refused area zero i p = record { answer = Taken; line = 0 }
first_refused area (suc n) i p = cond (is_taken (answer_to area i p)) (first_refused area n (suc i) p) (record { answer = answer_to area i p; line = i })

-- the first fault of their reading, then 3 for too many lines, then line by line 6 and the panel's own
unfoldable pub judged_of : List ℕ → ℕ → Panel → ScoreRead
judged_of area n p =
    cond (is_taken (area_fault area n 0).answer) (cond (leb n most_lines) (first_refused area n 0 p) (record { answer = OutOfRange; line = 0 })) (area_fault area n 0)

-- then 8, where the lent areas are too short
unfoldable pub prepared_of : List ℕ → ℕ → ℕ → ℕ → Panel → ScoreRead
prepared_of area n places room p =
    cond (is_taken (judged_of area n p).answer)
    (cond (leb n places) (cond (leb n room) (record { answer = Taken; line = 0 }) (record { answer = NoRoom; line = 0 })) (record { answer = NoRoom; line = 0 }))
    (judged_of area n p)

-- the lent order afterwards: as it was on refusal
unfoldable pub order_after : List ℕ → ℕ → ℕ → List ℕ → Panel → List ℕ
order_after area n room order p = cond (is_taken (prepared_of area n (length order) room p).answer) (over (order_of area n) order) order

-- a result on a core is that on its panel, whatever the code is
abbrev pub AsOn : {A : Type 0} → Core → A → (Panel → A) → Type 0
AsOn c r f = (code : List ℕ) (vals : List Float) → r ≡ f (panel_of c code vals)
