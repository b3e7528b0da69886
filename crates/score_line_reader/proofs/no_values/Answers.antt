use mathlib.Core.Path.{refl}
use lib.Ieee.{of_bits}
use Rattle.score_line.specs.inside.Reading.{with_values}
use Rattle.score_line.specs.LineFormat.{padded}
use Rattle.score_line_reader.proofs.no_values.Goals as goal

pub returns : goal.returns
unfolding with_values padded of_bits
returns c =
    refl
