use Prim.Native.Nat.{◌-◌}
use Rattle.text_decoder.proofs.Texts.{Filled}
use Rattle.text_decoder.proofs.fill.Given as goal

abbrev pub invariant-loop-i : goal.invariant-loop-i
invariant-loop-i l = Filled l.bytes l.n l.initial.area l.area l.at l.i
