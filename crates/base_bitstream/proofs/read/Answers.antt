use native.Mathlib.Omega.{arith}
use Prim.Native.Nat.{◌*◌}
use lib.ListN.{length}
use Rattle.base_bitstream.specs.inside.Fields.{Room}
use Rattle.base_bitstream.proofs.Fields.{room-found, read_none, read_some}
use Rattle.base_bitstream.proofs.read.Goals as goal

pub overflow_add-next : goal.overflow_add-next
overflow_add-next c =
    let r : Room (8 * length c.args.s.now) c.args.at c.args.n = search room-found in omega arith

pub value_at-requires : goal.value_at-requires
value_at-requires c =
    search room-found

pub returns-then-has_room : goal.returns-then-has_room
returns-then-has_room c =
    search read_some

pub returns : goal.returns
returns c =
    search read_none
