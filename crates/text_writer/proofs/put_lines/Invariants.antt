use Prim.Native.Nat.{◌-◌}
use Rattle.text_writer.proofs.Passing.{Laying}
use Rattle.text_writer.proofs.put_lines.Given as goal

abbrev pub invariant-loop-i : goal.invariant-loop-i
invariant-loop-i l = Laying l.area l.n l.initial.out l.out l.p l.i
