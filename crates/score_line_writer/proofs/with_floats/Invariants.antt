use borrow.Author.Rules.{rules}
use Prim.Native.Nat.{◌-◌}
use Rattle.score_line_writer.proofs.Packs.{Collected, floats-start, floats-room, floats-again, floats-end}
use Rattle.score_line_writer.proofs.with_floats.Given as goal

abbrev pub invariant-loop-i : goal.invariant-loop-i
invariant-loop-i l = Collected l.initial.r l.n l.values l.r l.i
