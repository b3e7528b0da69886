-- What a burst says is what the reader finds. Statements only.
use Rattle.std.specs.Prelude.{◌≡◌, List, ℕ}
use Rattle.score_bursts.specs.Bursts.{Burst, most_units, Parses}
use Rattle.score_bursts.specs.inside.Reading.{burst_of}

-- It is what the bytes say, whatever the bytes, and they say nothing else.
abbrev pub EveryBurst : Type 0
EveryBurst = (bs : List ℕ) → Parses most_units bs (burst_of bs)

abbrev pub OneParse : Type 0
OneParse = (bs : List ℕ) (b : Burst) → Parses most_units bs b → burst_of bs ≡ b
