use borrow.Author.Rules.{rules}
use Prim.Native.Nat.{◌-◌}
use Rattle.base_bitstream.specs.Bits.{bits_of}
use Rattle.score_reader.proofs.Readers.{Reading, starts, again, stops, ends}
use Rattle.score_reader.proofs.read_lines.Goals as goal

pub loop-i-init : goal.loop-i-init
loop-i-init c =
    search starts

pub returns-else-is_taken : goal.returns-else-is_taken
returns-else-is_taken c =
    search stops

pub loop-i-preserved : goal.loop-i-preserved
loop-i-preserved c =
    search again

pub returns : goal.returns
returns c =
    search ends
