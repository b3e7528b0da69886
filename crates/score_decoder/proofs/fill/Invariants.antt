use borrow.Author.Rules.{rules}
use Prim.Native.Nat.{◌-◌}
use Rattle.base_bitstream.specs.Bits.{bits_of}
use Rattle.score_decoder.proofs.Slots.{Filled, fill_start, fill_more, fill_end}
use Rattle.score_decoder.proofs.fill.Given as goal

abbrev pub invariant-loop-i : goal.invariant-loop-i
invariant-loop-i l = Filled (bits_of l.bytes) l.n l.initial.c l.initial.area l.area l.c l.i
