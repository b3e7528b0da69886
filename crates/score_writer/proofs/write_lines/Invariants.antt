use borrow.Author.Rules.{rules}
use Prim.Native.Nat.{◌-◌}
use Rattle.score_writer.proofs.Lays.{Laying, lay-start, lay-more, lay-end}
use Rattle.score_writer.proofs.write_lines.Given as goal

abbrev pub invariant-loop-i : goal.invariant-loop-i
invariant-loop-i l = Laying l.area l.n l.initial.out l.start l.out l.p l.i
