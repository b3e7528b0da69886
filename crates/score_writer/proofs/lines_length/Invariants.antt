use borrow.Author.Rules.{rules}
use Prim.Native.Nat.{◌-◌}
use Rattle.score_writer.proofs.Area.{Summed, sum-start, sum_more, sum-end}
use Rattle.score_writer.proofs.lines_length.Given as goal

abbrev pub invariant-loop-i : goal.invariant-loop-i
invariant-loop-i l = Summed l.area l.n l.total l.i
