use borrow.Author.Rules.{rules}
use Prim.Native.Nat.{◌-◌}
use Rattle.base_bitstream.specs.Bits.{bits_of}
use Rattle.score_reader.proofs.Readers.{Reading, starts, again, stops, ends}
use Rattle.score_reader.proofs.read_lines.Given as goal

abbrev pub invariant-loop-i : goal.invariant-loop-i
invariant-loop-i l = Reading (bits_of l.s) l.count l.start l.at l.i
