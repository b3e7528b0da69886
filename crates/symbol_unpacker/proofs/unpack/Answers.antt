use Rattle.symbol_unpacker.proofs.Laying.{held_fits, unpack-taken, unpack-short, unpack-refused}
use Rattle.symbol_unpacker.proofs.unpack.Goals as goal

pub lay_names-requires : goal.lay_names-requires
lay_names-requires c =
    search held_fits

pub returns-then-total-buffer : goal.returns-then-total-buffer
returns-then-total-buffer c =
    search unpack-taken

pub returns-else-total-buffer : goal.returns-else-total-buffer
returns-else-total-buffer c =
    search unpack-short

pub returns-in-Err : goal.returns-in-Err
returns-in-Err c =
    search unpack-refused
