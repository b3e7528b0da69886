use Prim.Native.Nat.{◌-◌}
use lib.ListN.{length}
use Rattle.midi_messages.proofs.Gathering.{Inv}
use Rattle.midi_messages.proofs.read_call.Given as goal

abbrev pub invariant-loop-i : goal.invariant-loop-i
invariant-loop-i l = Inv l.bytes l.g l.p l.i
