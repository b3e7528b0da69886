use mathlib.Core.Path.{◌≡◌, ◌∙◌}
use lib.ListN.{length, set, length-set}
use Rattle.symbol_unpacker.proofs.Laying.{entry-room, entry-copies, entry-laid}
use Rattle.symbol_unpacker.proofs.lay_name.Goals as goal

pub length_at-n-requires : goal.length_at-n-requires
length_at-n-requires c =
    search entry-room

pub copy_bytes-requires : goal.copy_bytes-requires
copy_bytes-requires c =
    search entry-copies

pub shape_of-buffer : goal.shape_of-buffer
shape_of-buffer c =
    let a = c.args in
    let n = c.length_at-n.result in
    let k : length c.copy_bytes.new.buffer ≡ length (set a.buffer.now a.to n) = c.copy_bytes.auto.buffer in
    k ∙ length-set a.buffer.now a.to n

pub returns : goal.returns
returns c =
    entry-laid c.requires c.length_at-n.ensures c.copy_bytes.ensures
