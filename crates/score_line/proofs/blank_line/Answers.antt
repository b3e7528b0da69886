use mathlib.Core.Path.{refl}
use lib.Ieee.{of_bits}
use Rattle.score_line.specs.Reading.{line_of}
use Rattle.score_line.specs.LineFormat.{padded}
use Rattle.score_line.proofs.blank_line.Goals as goal

pub returns : goal.returns
unfolding line_of padded of_bits
returns c =
    refl
