use Rattle.base_bitstream.proofs.Fields.{room-wide, room-far, room-bytes}
use Rattle.base_bitstream.proofs.has_room.Goals as goal

pub returns-then-n-gt32 : goal.returns-then-n-gt32
returns-then-n-gt32 c =
    search room-wide

pub returns-then-at-gt-FARTHEST : goal.returns-then-at-gt-FARTHEST
returns-then-at-gt-FARTHEST c =
    search room-far

pub returns : goal.returns
returns c =
    search room-bytes
