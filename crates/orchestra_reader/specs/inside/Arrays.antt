-- The last stages of reading on the arrays that hold the program.
use Rattle.std.specs.Prelude.{ℕ, ◌+◌, ◌≤◌, ◌≡◌, cond, List, ◌++◌, length, take, drop, set, eqb, ltb, Float}
use Rattle.base_answer.specs.Numbers.{is_taken}
use Rattle.base_answer.specs.declared.Answer.{Answer}
use Rattle.base_answer.specs.declared.Answer.TheVariants.{Taken, BadNames, BadRates}
use Rattle.orchestra_syntax.specs.inside.Program.{instr_op}
use Rattle.orchestra_rules.specs.Naming.{names_pass, places_pass}
use Rattle.orchestra_rules.specs.Rating.{rates_pass}
use Rattle.orchestra_reader.specs.declared.OrchestraRead.{OrchestraRead}
use Rattle.orchestra_reader.specs.declared.Starts.{Starts}
use Rattle.orchestra_reader.specs.inside.Compiled.{padded}
use Rattle.orchestra_reader.specs.inside.Reading.{taken, refused, starts_from}

-- so many starts, in the first cells of an array
abbrev pub starting : ℕ → List ℕ → Starts
starting n cells = record { count = n; places = cells }

-- these places, in the first cells of an array
abbrev pub starts_in : List ℕ → Starts
starts_in hs = starting (length hs) (padded 8 0 hs)

-- one more, where there is room
abbrev pub headed_at : Starts → ℕ → Starts
headed_at h at = cond (ltb h.count 8) (starting (h.count + 1) (set h.places h.count at)) h

-- an instrument starts at instr
abbrev pub marked_at : Starts → ℕ → ℕ → Starts
marked_at h o at = cond (eqb o instr_op) (headed_at h at) h

pub record Fits (h : Starts) : Type 0 where
  pub most : h.count ≤ 8
  pub cells : length h.places ≡ 8

-- the name rules, then the rate rules
abbrev pub judgement : List ℕ → List ℕ → Answer
judgement os ns = cond (names_pass os ns) (cond (rates_pass os (places_pass os ns)) Taken BadRates) BadNames

-- names by their places, where the name rules are kept
abbrev pub placed_if : List ℕ → List ℕ → List ℕ
placed_if os ns = cond (names_pass os ns) (places_pass os ns) ns

-- an accepted orchestra, whose program stands in the first n cells
abbrev pub kept_in : List ℕ → List ℕ → List Float → ℕ → OrchestraRead
kept_in os ns vs n =
    let starts = take 8 (starts_from 0 (take n os)) in
    taken (record { count = length starts; heads = padded 8 0 starts; length = n; ops = os; args = ns; vals = vs })

-- a program in the first n cells, judged; the cells behind it stay
abbrev pub finished_in : List ℕ → List ℕ → List Float → ℕ → OrchestraRead
finished_in os ns vs n =
    let answer = judgement (take n os) (take n ns) in
    cond (is_taken answer) (kept_in os (placed_if (take n os) (take n ns) ++ drop n ns) vs n) (refused answer)
