use Rattle.symbol_unpacker.proofs.Measuring.{measure-starts, measure-room, measure-again, measure-cut-length, measure-cut, measure-ends}
use Rattle.symbol_unpacker.proofs.measure.Goals as goal

pub loop-i-init : goal.loop-i-init
loop-i-init c =
    search measure-starts

pub returns-then-ends_before : goal.returns-then-ends_before
returns-then-ends_before c =
    search measure-cut-length

pub length_at-n-requires : goal.length_at-n-requires
length_at-n-requires c =
    search measure-room

pub returns-then-ends_before-2 : goal.returns-then-ends_before-2
returns-then-ends_before-2 c =
    search measure-cut

pub loop-i-preserved : goal.loop-i-preserved
loop-i-preserved c =
    search measure-again

pub returns : goal.returns
returns c =
    search measure-ends
