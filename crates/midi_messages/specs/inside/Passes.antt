-- What the reader does to what it has gathered.
use Rattle.std.specs.Prelude.{◌+◌, cond, set, ltb}
use Rattle.midi_messages.specs.inside.Reading.{most}
use Rattle.midi_messages.specs.declared.NoteMessage.{NoteMessage}
use Rattle.midi_messages.specs.declared.CallMessages.{CallMessages}

-- a note message goes behind the others while there is a place for it
unfoldable pub added : CallMessages → NoteMessage → CallMessages
added g m = cond (ltb g.count most) (record { list = set g.list g.count m; count = g.count + 1 }) g
