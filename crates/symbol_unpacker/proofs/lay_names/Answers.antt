use Rattle.symbol_unpacker.proofs.Laying.{lay-starts, lay-entry, lay-again, lay-ends}
use Rattle.symbol_unpacker.proofs.lay_names.Goals as goal

pub loop-i-init : goal.loop-i-init
loop-i-init c =
    search lay-starts

pub lay_name-n-requires : goal.lay_name-n-requires
lay_name-n-requires c =
    search lay-entry

pub loop-i-preserved : goal.loop-i-preserved
loop-i-preserved c =
    search lay-again

pub shape_of-buffer : goal.shape_of-buffer
shape_of-buffer c =
    c.loop-i.invariant.same

pub returns : goal.returns
returns c =
    search lay-ends
