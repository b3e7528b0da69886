use Prim.Native.Nat.{◌-◌}
use Rattle.text_format.specs.Content.{most_lines}
use Rattle.text_reader.proofs.LineLoop.{Reading}
use Rattle.text_reader.proofs.read_text.Given as goal

abbrev pub invariant-loop-at : goal.invariant-loop-at
invariant-loop-at l = Reading l.s l.fault l.at l.i

abbrev pub decreases-loop-at : goal.decreases-loop-at
decreases-loop-at l = most_lines - l.i
