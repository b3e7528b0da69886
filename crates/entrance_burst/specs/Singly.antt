-- What a burst brings into the waiting lines: "as if the units came singly, in order" (document 02, M-103).
use Rattle.std.specs.Prelude.{Bool, cond, List, [], ◌∷◌, ℕ, leb, length}
use Rattle.base_answer.specs.Numbers.{number_of}
use Rattle.base_answer.specs.declared.Answer.TheVariants.{Taken, NoRoom}
use Rattle.score_bursts.specs.Bursts.{Burst, units, fault}
use Rattle.player_model.specs.Lists.{over}
use Rattle.player_model.specs.Calls.{unit, must_be_timed, reads}
use Rattle.player_queue.specs.declared.Queue.{Queue}
use Rattle.code_program.specs.declared.Instrument.{Instrument}
use Rattle.entrance_admission.specs.Submission.{submitted_in}
use Rattle.base_answer.specs.declared.AnsweredUnits.{AnsweredUnits}

-- what units leave that come singly, in order: the waiting lines, and the number of each one's answer
pub record Singly : Type 0 where
  pub queue : Queue
  pub numbers : List ℕ

unfoldable pub singly_in : Bool → List Instrument → Queue → List (List ℕ) → Singly
singly_in ended table q [] = record { queue = q; numbers = [] }
singly_in ended table q (u ∷ us) =
    let r = submitted_in ended (must_be_timed unit) table q (reads unit u) in
    let rest = singly_in ended table r.left us in
    record { queue = rest.queue; numbers = number_of r.answer ∷ rest.numbers }

-- its first fault; 8 where there are fewer places than units; then its units as if they came singly
unfoldable pub burst_submitted_in : Bool → List Instrument → Queue → ℕ → Burst → AnsweredUnits Queue
burst_submitted_in ended table q places (units us) =
    cond (leb (length us) places) (record { left = (singly_in ended table q us).queue; answer = Taken; units = length us })
    (record { left = q; answer = NoRoom; units = 0 })
burst_submitted_in ended table q places (fault a) = record { left = q; answer = a; units = 0 }

-- the lent answer area afterwards: an answer for each unit in its first places, or as it was
unfoldable pub area_in : Bool → List Instrument → Queue → List ℕ → Burst → List ℕ
area_in ended table q area (units us) = cond (leb (length us) (length area)) (over (singly_in ended table q us).numbers area) area
area_in ended table q area (fault a) = area
