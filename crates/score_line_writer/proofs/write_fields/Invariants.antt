use borrow.Author.Rules.{rules}
use Prim.Native.Nat.{◌-◌}
use Rattle.score_line_writer.proofs.Writes.{Loop, loop-start, loop-more, loop-fits, loop-end}
use Rattle.score_line_writer.proofs.write_fields.Given as goal

abbrev pub invariant-loop-i : goal.invariant-loop-i
invariant-loop-i l = Loop l.at l.n l.widths l.values l.initial.out l.out l.p l.i
