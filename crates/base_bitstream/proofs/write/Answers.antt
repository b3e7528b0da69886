use Rattle.base_bitstream.proofs.Fields.{room-found, write-none, write-some}
use Rattle.base_bitstream.proofs.write.Goals as goal

pub put_field-requires : goal.put_field-requires
put_field-requires c =
    search room-found

pub returns-then-has_room : goal.returns-then-has_room
returns-then-has_room c =
    search write-some

pub returns-else-has_room : goal.returns-else-has_room
returns-else-has_room c =
    search write-none
