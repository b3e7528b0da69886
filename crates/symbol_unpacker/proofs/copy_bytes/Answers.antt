use Rattle.symbol_unpacker.proofs.Laying.{copy-starts, copy-room, copy-again, copy-ends}
use Rattle.symbol_unpacker.proofs.copy_bytes.Goals as goal

pub loop-j-init : goal.loop-j-init
loop-j-init c =
    search copy-starts

pub byte_at-requires : goal.byte_at-requires
byte_at-requires c =
    search copy-room

pub loop-j-preserved : goal.loop-j-preserved
loop-j-preserved c =
    search copy-again

pub shape_of-buffer : goal.shape_of-buffer
shape_of-buffer c =
    c.loop-j.invariant.same

pub returns : goal.returns
returns c =
    search copy-ends
