use Rattle.score_line.specs.declared.Range.TheVariants as range
use Rattle.score_line.specs.LineFormat.{in_range}
use Rattle.score_line.proofs.Parts.{range-is}
use Rattle.score_line.proofs.in_range.Goals as goal

pub returns-in-Time : goal.returns-in-Time
unfolding in_range
returns-in-Time c =
    search (range-is range.Time)

pub returns-in-Duration : goal.returns-in-Duration
unfolding in_range
returns-in-Duration c =
    search (range-is range.Duration)

pub returns-in-Tempo : goal.returns-in-Tempo
unfolding in_range
returns-in-Tempo c =
    search (range-is range.Tempo)

pub returns-in-Value : goal.returns-in-Value
unfolding in_range
returns-in-Value c =
    search (range-is range.Value)
