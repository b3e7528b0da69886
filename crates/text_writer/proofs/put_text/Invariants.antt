use Prim.Native.Nat.{◌-◌}
use Rattle.text_writer.proofs.Passing.{Copied}
use Rattle.text_writer.proofs.put_text.Given as goal

abbrev pub invariant-loop-i : goal.invariant-loop-i
invariant-loop-i l = Copied l.initial.out l.at l.len l.bytes l.out l.i
