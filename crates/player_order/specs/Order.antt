-- The plain player does not care in which order its lines are given, as long as lines of the same exact time keep theirs.
use Rattle.std.specs.Prelude.{◌≡◌, List, ℕ, Float}
use Rattle.score_line.specs.declared.When.{When}
use Rattle.score_line.specs.declared.Line.{Line}
use Rattle.player_model.specs.Lists.{All}
use Rattle.player_model.specs.Cycle.{Voices}
use Rattle.player_model.specs.PlayerState.{Settings}
use Rattle.player_model.specs.Results.{at_time, is_number}
use Rattle.player_order.specs.UpTo.{SameUpTo}

-- every time is a number, as every time that is read is
abbrev pub AllNumbers : List Line → Type 0
AllNumbers ls = All (λ (l : Line). is_number l.when) ls

-- of every exact time, and of no time, the same lines in the same order: the one list is a stable rearrangement of the other
abbrev pub SameByTime : List Line → List Line → Type 0
SameByTime xs ys = (w : When) → at_time w xs ≡ at_time w ys

-- Then two plain players with the same settings at the same cycles show the same up to every cycle.
unfoldable pub OrderOfTimes : Type 1
OrderOfTimes =
    (S : Type 0) (v : Voices S) (start : Float) (settings : ℕ → Settings) (xs ys : List Line) → AllNumbers xs → AllNumbers ys → SameByTime xs ys
    → (n : ℕ) → SameUpTo v start settings settings xs ys n
