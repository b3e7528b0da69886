use mathlib.Core.Path.{◌≡◌}
use lib.ListN.{drop}
use Rattle.score_writer.specs.Slots.{all_zero}
use Rattle.score_writer.proofs.zero_from.Given as goal

abbrev pub invariant-loop-i : goal.invariant-loop-i
invariant-loop-i l = all_zero (drop l.i l.words) ≡ all_zero (drop l.at l.words)
