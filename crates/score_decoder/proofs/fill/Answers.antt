use borrow.Author.Rules.{rules}
use Prim.Native.Nat.{◌-◌}
use Rattle.base_bitstream.specs.Bits.{bits_of}
use Rattle.score_decoder.proofs.Slots.{Filled, fill_start, fill_more, fill_end}
use Rattle.score_decoder.proofs.fill.Goals as goal

pub loop-i-init : goal.loop-i-init
loop-i-init c =
    search fill_start

pub loop-i-preserved : goal.loop-i-preserved
loop-i-preserved c =
    search fill_more

pub returns : goal.returns
returns c =
    search fill_end
